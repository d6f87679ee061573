-- `write_run` meets its contract: the first piece, and behind it the rest.
use Rattle.std.proofs.Common.{◌≡◌, length, take}
use Rattle.octets.specs.Store.{part}
use Rattle.report_spec.specs.Printed.{printed}
use Rattle.report_whole.specs.PartLaws.{begun_part}
use Rattle.simulate.specs.Written.{first_fits, first_end, first_most, first_text, wrote}
use Rattle.simulate.proofs.write_run.Goals as goal

pub write_piece-requires : goal.write_piece-requires
write_piece-requires g c =
    record {
      piece_value = begun_part _ _ _ _ _ _ c.first-p.ensures.size c.requires c.first-p.ensures.piece;
      piece_bound = search first_fits;
    }

pub write_rest-requires : goal.write_rest-requires
write_rest-requires g c = (search (first_end, c.in_ok-at.ensures.end), search (first_most, c.in_ok-at.ensures.end))

pub returns-clause-text : goal.returns-clause-text
returns-clause-text g c =
    let piece = take c.first-p.result.size c.first-p.new.buf in
    let here : part (printed c.args.input.now) 0 (length piece) ≡ piece =
    begun_part _ _ _ _ _ _ c.first-p.ensures.size c.requires c.first-p.ensures.piece in
    wrote _ _ _ _ _ _ c.write_rest.result (first_text _ piece _ here c.in_ok-at.ensures.end)
    c.in_ok-at.ensures.text c.write_rest.ensures.text
