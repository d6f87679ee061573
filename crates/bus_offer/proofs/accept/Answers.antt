-- `bus_offer::accept` meets its contract. Assumes nothing.
use Rattle.bus_offer.specs.OfferLaws.{accepted_is, address_six, data_small}
use native.Mathlib.Omega.{arith}
use Rattle.bus_offer.proofs.accept.Goals as goal

pub frame_size-requires : goal.frame_size-requires
frame_size-requires c = search data_small

pub returns : goal.returns
returns c =
    accepted_is _ _ _ _ _ _ _ _ _ _ c.count_offer.ensures
    c.hold_frame.ensures
    c.frame_size.ensures
    c.build_frame.ensures
    c.requires.payload_value (omega arith) (address_six _ _ (omega arith) (omega arith))
