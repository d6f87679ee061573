-- `write_rest` meets its contract: each piece that was written stands behind the ones before it.
use Rattle.std.proofs.Common.{◌≡◌, ◌++◌, length, take, subst, arith}
use Rattle.std.proofs.KnownBytes.{Appends-trans}
use Rattle.std.specs.Io.KnownBytes.{Appends}
use Rattle.octets.specs.Store.{part}
use Rattle.report_spec.specs.Printed.{printed}
use Rattle.report_whole.specs.PartLaws.{may_advance, along_part, along_less}
use Rattle.simulate.specs.Written.{next_room, next_end, next_most, next_text, all_done, all_text}
use Rattle.simulate.proofs.write_rest.Goals as goal

pub next-p-requires : goal.next-p-requires
next-p-requires g c = (search may_advance, omega arith)

pub write_piece-requires : goal.write_piece-requires
write_piece-requires g c =
    record {
      piece_value =
          along_part _ _ _ _ _ _ _ _ c.loop-g.invariant.0 c.loop-g-test.true c.next-p.ensures.size
          c.next-p.ensures.piece;
      piece_bound = search next_room;
    }

pub loop-g-smaller : goal.loop-g-smaller
loop-g-smaller g c = search along_less

pub loop-g-preserved : goal.loop-g-preserved
loop-g-preserved g c =
    let (d, e, w) = c.loop-g.invariant.3 in
    let piece = take c.next-p.result.size c.next-p.new.buf in
    let here : part (printed c.args.input.now) c.loop-g.at (length piece) ≡ piece =
    along_part _ _ _ _ _ _ _ _ c.loop-g.invariant.0 c.loop-g-test.true c.next-p.ensures.size c.next-p.ensures.piece in
    let text = c.in_ok-at.ensures.text in (
      search (next_end, c.in_ok-at.ensures.end),
      search (next_most, c.in_ok-at.ensures.end),
      omega arith,
      (d ++ piece, next_text _ d piece _ _ _ e here c.in_ok-at.ensures.end, Appends-trans _ _ _ _ _ w text),
    )

pub returns-clause-end : goal.returns-clause-end
returns-clause-end g c = search all_done

pub returns-clause-text : goal.returns-clause-text
returns-clause-text g c =
    let (d, e, w) = c.loop-g.invariant.3 in
    let all : c.loop-g.at ≡ length (printed c.args.input.now) = search all_done in
    subst (Appends _ _) (all_text _ d _ _ e all) w
