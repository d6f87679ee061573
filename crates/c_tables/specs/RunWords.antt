-- What a run writes into the lent output of the C interface, in words of four octets, high octet first. Assumes
-- nothing.
use Rattle.std.specs.Prelude.{ℕ, ◌*◌, ◌≡◌, refl, List, [], ◌∷◌, length, Option, Some, None}
use Rattle.std.proofs.Common.{◌∙◌}
use Rattle.octets.specs.Words.{put_words}
use Rattle.bus_spec.specs.declared.course.LateEnd.{LateEnd}
use Rattle.station_tally.specs.Words.{word_count}

-- 0 where all steps were made; where the run ended early 1, the step and the station of the late collision
abbrev pub ended_words : Option LateEnd → List ℕ
ended_words None = 0 ∷ 0 ∷ 0 ∷ []
ended_words (Some e) = 1 ∷ e.step ∷ e.station ∷ []

-- the event words of a run, and how it ended
unfoldable pub run_put : List ℕ → Option LateEnd → List ℕ → List ℕ
run_put ws e out = put_words 3 (put_words word_count out 0 ws) (4 * word_count) (ended_words e)

-- ---- the code

length_ended : (e : Option LateEnd) → length (ended_words e) ≡ 3
length_ended None = refl
length_ended (Some e) = refl

pub run_put_lem : (a b x ws vs : List ℕ) (e : Option LateEnd) → b ≡ put_words (length vs) x (4 * word_count) vs
    → x ≡ put_words (length ws) a 0 ws
    → vs ≡ ended_words e → length ws ≡ word_count → b ≡ run_put ws e a
unfolding run_put
run_put_lem a b x ws vs e p q r h = p ∙ rw (q, r, length_ended e, h)
