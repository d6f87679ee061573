-- The code's counters by the places of station_spec/Count. Assumes nothing.
use Rattle.std.specs.Prelude.{ℕ}
use Rattle.station_count.specs.declared.Counter.{Counter}
use Rattle.station_count.specs.declared.Counter.TheVariants.{Offered, Attempts, Collisions, Late, Sent, SentAfterOne}
use Rattle.station_count.specs.declared.Counter.TheVariants.{SentAfterSeveral, OctetsSent, Deferred, Excessive}
use Rattle.station_count.specs.declared.Counter.TheVariants.{Received, OctetsReceived}
use Rattle.station_count.specs.declared.Counter.TheVariants.{TooLong, CheckErrors, AlignmentErrors, LengthErrors}
use Rattle.station_count.specs.declared.Counter.TheVariants.{LateEnded}
use Rattle.station_spec.specs.Count.{offered, attempts, collisions, late, sent, sent_after_one, sent_after_several}
use Rattle.station_spec.specs.Count.{octets_sent, deferred_frames, excessive, received, octets_received, too_long}
use Rattle.station_spec.specs.Count.{check_errors}
use Rattle.station_spec.specs.Count.{alignment_errors, length_errors, late_ended}

abbrev pub counter_place : Counter → ℕ
counter_place Offered = offered
counter_place Attempts = attempts
counter_place Collisions = collisions
counter_place Late = late
counter_place Sent = sent
counter_place SentAfterOne = sent_after_one
counter_place SentAfterSeveral = sent_after_several
counter_place OctetsSent = octets_sent
counter_place Deferred = deferred_frames
counter_place Excessive = excessive
counter_place Received = received
counter_place OctetsReceived = octets_received
counter_place TooLong = too_long
counter_place CheckErrors = check_errors
counter_place AlignmentErrors = alignment_errors
counter_place LengthErrors = length_errors
counter_place LateEnded = late_ended
