-- The receiver's part of a bit time, for the BitReceiver and the frame receiver: it is document 01's receiver. Assumes
-- nothing.
use Rattle.std.specs.Prelude.{ℕ, suc, ◌+◌, ◌-◌, ◌/◌, ◌%◌, ◌≤◌, ◌<◌, ◌≡◌, Bool, ◌||◌, List, [], ◌∷◌, ltb, eqb, get_or, take, replicate, Option, None, Some}
use Rattle.std.proofs.Math.Path.{refl, ap₂, subst}
use Rattle.std.proofs.Common.{sym, ◌∙◌, ap, subst₂, true≢false, length-take}
use Rattle.std.proofs.Math.Bool.{true, false, not, ◌&&◌, and-false, or-false, or-true}
use native.Mathlib.Omega.{arith}
use Rattle.std.proofs.Math.Dec.{leb}
use Rattle.std.proofs.Math.ListN.{length}
use borrow.Author.Tests.{ltb-true, ltb-false, le-leb, lt-leb, ne_eqb}
use Rattle.octets.specs.Base.{pick, Answer, values_of}
use Rattle.octets.specs.Equal.{equal}
use Rattle.frame_build.specs.Limits.{buffer_octets, shortest_frame, max_frame}
use Rattle.frame_open.specs.Open.{destination_of, value_of, data_field, check_wrong, length_wrong, client_size}
use Rattle.station_symbols.specs.Packet.{hears_any, is_emission}
use Rattle.station_symbols.specs.declared.Heard.{Heard}
use Rattle.station_symbols.specs.declared.Heard.TheVariants.{Nothing, Clean, Spoiled}
use Rattle.station_state.specs.declared.Receiver.{Receiver}
use Rattle.station_state.specs.declared.Receiver.TheVariants.{Listening, Readable, Seeking, Collecting}
use Rattle.station_spec.specs.declared.ReceiveEvent.{ReceiveEvent}
use Rattle.station_spec.specs.declared.ReceiveEvent.TheVariants.{GotOk, GotTooLong, GotAlignment}
use Rattle.station_spec.specs.declared.ReceiveEvent.TheVariants.{GotCheck, GotLength}
use Rattle.station_spec.specs.declared.Received.{Received}
use Rattle.station_spec.specs.Receive.{no_row, next_row, delimiter_row, stored_bit, hearing, seek_bit, collect_bit}
use Rattle.station_spec.specs.Receive.{seek}
use Rattle.station_spec.specs.Receive.{collect, hear, addressed, open_answer, got_event, readable_after, deciding}
use Rattle.station_spec.specs.Receive.{opening, decide, ended, receive}
use Rattle.standard.specs.Language.{excess_bits, Variables, with_flag, with_number, Transmission, Reception}
use Rattle.standard.specs.Language.{Signals, store, Statement, bit, over, ◌⨾◌, test, skip, repeat, call, await}
use Rattle.standard.specs.Language.{flag, receiving, receive_succeeding, spoiled, overlapped, current_receive_bit}
use Rattle.standard.specs.Language.{frame_size}
use Rattle.standard.specs.Interpreter.{Place, waiting, ran, kept_in}
use Rattle.standard.specs.RunLaws.{Goes, Turns, goes, waits, rest, num, hands, keeps, rows, seq, pass, enter}
use Rattle.standard.specs.RunLaws.{stay, leave, again, round, yes₁, no₁}
use Rattle.standard.specs.RunLaws.{set as put}
use Rattle.standard.specs.Reading.{bit_of, is_spoiled, next_symbols, kept_bit}
use Rattle.standard.specs.BitReceiver.{delimiter, same_bits, seek_symbol, is_delimiter, take_bit, receive_bits}
use Rattle.standard.specs.BitReceiver.{close_frame, bit_receiver}
use Rattle.standard.specs.FrameReceiver.{disassemble, while_receiving, truncate, receive_link_mgmt}
use Rattle.standard.specs.FrameReceiver.{receive_data_decap, receive_frame, frame_receiver}
use Rattle.standard.specs.ReceiveRules.{coded, same_coded, next_coded, opened_is}

-- ---- the places

-- what follows the delimiter
abbrev pub frame_follows : List Statement
frame_follows = (await bit ⨾ take_bit) ∷ receive_bits ∷ close_frame ∷ bit_receiver ∷ []

abbrev pub at_seek : Place
at_seek =
    waiting bit (seek_symbol ∷ test is_delimiter skip (repeat (await bit ⨾ seek_symbol) is_delimiter) ∷ frame_follows)

abbrev pub at_collect : Place
at_collect = waiting bit (take_bit ∷ receive_bits ∷ close_frame ∷ bit_receiver ∷ [])

abbrev pub at_closed : Place
at_closed = waiting over (bit_receiver ∷ [])

abbrev pub at_listen : List ℕ → Place
at_listen a =
    waiting over
    (while_receiving ∷ truncate ∷ test (flag receive_succeeding) skip receive_link_mgmt ∷ call (receive_data_decap a)
    ∷ test (flag receive_succeeding) skip (receive_frame a) ∷ frame_receiver a ∷ [])

-- ---- where the two stand, and what document 01's receiver is then

abbrev pub is_collecting : Receiver → Bool
is_collecting Listening = false
is_collecting (Readable n) = false
is_collecting (Seeking row sp own) = false
is_collecting (Collecting n sp own) = true

-- what a receiver that does not collect has before it: the row, and the two marks
abbrev pub row_of : Receiver → ℕ
row_of Listening = no_row
row_of (Readable n) = no_row
row_of (Seeking row sp own) = row
row_of (Collecting n sp own) = no_row

abbrev pub spoiled_of : Receiver → Bool
spoiled_of Listening = false
spoiled_of (Readable n) = false
spoiled_of (Seeking row sp own) = sp
spoiled_of (Collecting n sp own) = sp

abbrev pub own_of : Receiver → Bool
own_of Listening = false
own_of (Readable n) = false
own_of (Seeking row sp own) = own
own_of (Collecting n sp own) = own

pub data ReceiveAt (v : Variables) (w : List Bool) (x : Receiver) (at : Place) : Type 0 where
  seeks : is_collecting x ≡ false → at ≡ at_seek → coded w ≡ row_of x → length w ≤ 8
      → v.flags spoiled ≡ spoiled_of x → v.flags overlapped ≡ own_of x → v.flags receiving ≡ true
      → v.numbers current_receive_bit ≡ 1 → ReceiveAt v w x at
  collects : (n : ℕ) (sp own : Bool) → x ≡ Collecting n sp own → at ≡ at_collect → v.flags spoiled ≡ sp
      → v.flags overlapped ≡ own → v.flags receiving ≡ true → v.numbers current_receive_bit ≡ n + 1
      → ReceiveAt v w x at

-- ---- the receiver's part of a bit time

abbrev pub fresh_reception : Variables → List Bool → List ℕ → Reception
fresh_reception v w l = record { variables = v; row = w; incoming = l; got = None; stored = None }

pub record ReceiveTurns (a : List ℕ) (d : Variables) (t : Transmission) (s : Signals) (v : Variables) (w : List Bool)
    (l : List ℕ) (at : Place) (o : Received) : Type 0 where
  pub taken : Reception
  pub decided : Reception
  pub closed : Reception
  pub take_place : Place
  pub close_place : Place
  pub take_turn : Turns bit at (store d t (fresh_reception v w l) s) (ran take_place (store d t taken s))
  pub decide_turn : (u : Transmission)
      → Turns over (at_listen a) (store d u taken s) (ran (at_listen a) (store d u decided s))
  pub close_turn : (u : Transmission)
      → Turns over take_place (store d u decided s) (ran close_place (store d u closed s))
  pub got : closed.got ≡ o.event
  pub stored : closed.stored ≡ o.stored
  pub keeps : closed.incoming ≡ kept_in l o.stored
  pub stands : ReceiveAt closed.variables closed.row o.receiver close_place

-- ---- the frame receiver decides

-- a reception begins anew
abbrev listening : Reception → Reception
listening r =
    record {
      variables = with_flag receiving true (with_number current_receive_bit 1 r.variables);
      row = r.row;
      incoming = r.incoming;
      got = r.got;
      stored = r.stored;
    }

-- from ReceiveLinkMgmt's beginning, ReceiveFrame's, and the client's call
abbrev nine : ℕ → ℕ
nine n = suc (suc (suc (suc (suc (suc (suc (suc (suc n))))))))

module _ (a : List ℕ) {d : Variables} {u : Transmission} {r : Reception} {s : Signals} {n : ℕ} where
  link_listens : Goes (nine n)
      (receive_link_mgmt ∷ call (receive_data_decap a) ∷ test (flag receive_succeeding) skip
      (receive_frame a) ∷ frame_receiver a ∷ [])
      (store d u r s) (ran (at_listen a) (store d u (listening r) s))
  link_listens = again (seq (enter (seq (num (put (seq (stay refl rest)))))))

  frame_listens : Goes (suc (suc (suc (nine n)))) (receive_frame a ∷ frame_receiver a ∷ []) (store d u r s)
      (ran (at_listen a) (store d u (listening r) s))
  frame_listens = again (seq (enter link_listens))

  client_listens : Goes (suc (suc (suc (suc (suc (nine n)))))) (frame_receiver a ∷ []) (store d u r s)
      (ran (at_listen a) (store d u (listening r) s))
  client_listens = round (enter frame_listens)

-- from r it reports g, and listens again
record Decided (a : List ℕ) (d : Variables) (s : Signals) (r : Reception) (g : Option ReceiveEvent) : Type 0 where
  after : Reception
  turn : (u : Transmission) → Turns over (at_listen a) (store d u r s) (ran (at_listen a) (store d u after s))
  receives : after.variables.flags receiving ≡ true
  first : after.variables.numbers current_receive_bit ≡ 1
  event : after.got ≡ g
  bits : after.stored ≡ r.stored
  octets : after.incoming ≡ r.incoming

module _ (a : List ℕ) (d : Variables) (s : Signals) (v : Variables) (w : List Bool) (l : List ℕ)
    (rc : v.flags receiving ≡ false) where
  abbrev whole_bits : ℕ
  whole_bits = v.numbers frame_size - v.numbers frame_size % 8

  abbrev octets_now : ℕ
  octets_now = whole_bits / 8

  abbrev frame_now : List ℕ
  frame_now = take octets_now l

  abbrev long : Bool
  long = leb 512 whole_bits && not (v.flags overlapped)

  abbrev ours : Bool
  ours = equal (destination_of l) a || equal (destination_of l) (replicate 6 255)

  abbrev Says : Option ReceiveEvent → Type 0
  Says g = Decided a d s (fresh_reception v w l) g

  short_frame : long ≡ false → Says None
  short_frame c =
      record {
        after = _;
        turn = λ u.
            goes (leave rc (seq (num (seq (num (put (no₁ c (link_listens a))))))));
        receives = refl;
        first = refl;
        event = refl;
        bits = refl;
        octets = refl;
      }

  module _ (c : long ≡ true) where
    other_frame : ours ≡ false → Says None
    other_frame o =
        record {
          after = _;
          turn = λ u.
              goes (leave rc (seq (num (seq (num (put (yes₁ c (pass (enter (seq (put (no₁ o (pass (no₁ o
              (frame_listens a)))))))))))))));
          receives = refl;
          first = refl;
          event = refl;
          bits = refl;
          octets = refl;
        }

    module _ (o : ours ≡ true) where
      -- the reception that the status is read from, and with the status
      abbrev judging : Option ReceiveEvent → Reception
      judging g =
          record {
            variables =
                with_flag receive_succeeding ours
                (with_flag receive_succeeding long
                (with_number frame_size whole_bits (with_number excess_bits (v.numbers frame_size % 8) v)));
            row = w;
            incoming = l;
            got = g;
            stored = None;
          }

      status_says : (g : Option ReceiveEvent)
          → ((u : Transmission)
          → Goes 52
          (disassemble ∷ test (flag receive_succeeding) skip (receive_frame a) ∷ frame_receiver a ∷ [])
          (store d u (judging None) s) (ran (at_listen a) (store d u (listening (judging g)) s)))
          → Says g
      status_says g k =
          record {
            after = listening (judging g);
            turn = λ u. goes (leave rc (seq (num (seq (num (put (yes₁ c (pass (enter (seq (put (yes₁ o
                (k u)))))))))))));
            receives = refl;
            first = refl;
            event = refl;
            bits = refl;
            octets = refl;
          }

      -- the five statuses
      too_long_lem : (ltb buffer_octets octets_now || ltb (max_frame (value_of frame_now)) octets_now) ≡ true
          → Says (Some (GotTooLong octets_now))
      too_long_lem e = status_says _ (λ u. yes₁ e (hands (yes₁ o (pass (client_listens a)))))

      module _ (e : (ltb buffer_octets octets_now || ltb (max_frame (value_of frame_now)) octets_now) ≡ false) where
        received_ok : not (check_wrong (v.flags spoiled) frame_now) ≡ true
            → not (length_wrong (value_of frame_now) (length (data_field frame_now))) ≡ true
            → Says (Some (GotOk (client_size (value_of frame_now) (length (data_field frame_now)))))
        received_ok f g = status_says _ (λ u. no₁ e (yes₁ f (yes₁ g (hands (yes₁ o (pass (client_listens a)))))))

        wrong_length : not (check_wrong (v.flags spoiled) frame_now) ≡ true
            → not (length_wrong (value_of frame_now) (length (data_field frame_now))) ≡ false
            → Says (Some (GotLength octets_now))
        wrong_length f g = status_says _ (λ u. no₁ e (yes₁ f (no₁ g (hands (yes₁ o (pass (client_listens a)))))))

        wrong_check : not (check_wrong (v.flags spoiled) frame_now) ≡ false → eqb (v.numbers frame_size % 8) 0 ≡ true
            → Says (Some (GotCheck octets_now))
        wrong_check f g = status_says _ (λ u. no₁ e (no₁ f (yes₁ g (hands (yes₁ o (pass (client_listens a)))))))

        wrong_alignment : not (check_wrong (v.flags spoiled) frame_now) ≡ false
            → eqb (v.numbers frame_size % 8) 0 ≡ false → Says (Some (GotAlignment octets_now))
        wrong_alignment f g = status_says _ (λ u. no₁ e (no₁ f (no₁ g (hands (yes₁ o (pass (client_listens a)))))))

      -- the page's choice among them
      statuses : (e f g h : Bool)
          → (ltb buffer_octets octets_now || ltb (max_frame (value_of frame_now)) octets_now) ≡ e
          → not (check_wrong (v.flags spoiled) frame_now) ≡ f
          → not (length_wrong (value_of frame_now) (length (data_field frame_now))) ≡ g
          → eqb (v.numbers frame_size % 8) 0 ≡ h
          → Says
          (pick e (Some (GotTooLong octets_now))
          (pick f
          (pick g (Some (GotOk (client_size (value_of frame_now) (length (data_field frame_now))))) (Some (GotLength octets_now)))
          (pick h (Some (GotCheck octets_now)) (Some (GotAlignment octets_now)))))
      statuses true f g h i j k m = too_long_lem i
      statuses false true true h i j k m = received_ok i j k
      statuses false true false h i j k m = wrong_length i j k
      statuses false false g true i j k m = wrong_check i j m
      statuses false false g false i j k m = wrong_alignment i j m

  -- document 01's decision
  abbrev choice_of : (c own o : Bool) → Received
  choice_of c own o =
      pick c (deciding Listening None)
      (pick own (deciding Listening None)
      (pick o (opening l (v.numbers frame_size) (v.flags spoiled)) (deciding Listening None)))

  is_long : (n x : ℕ) → x ≡ n - n % 8 → 512 ≤ n → 512 ≤ x
  is_long n x e h = omega arith

  is_short : (n x : ℕ) → x ≡ n - n % 8 → n < 512 → x < 512
  is_short n x e h = omega arith

  same_octets : (n m : ℕ) → m ≡ (n - n % 8) / 8 → m ≡ n / 8
  same_octets n m e = omega arith

  many_octets : (n m : ℕ) → m ≡ (n - n % 8) / 8 → 512 ≤ n → 64 ≤ m
  many_octets n m e h = omega arith

  decides : buffer_octets ≤ length l → (c own o : Bool) → ltb (v.numbers frame_size) shortest_frame ≡ c
      → v.flags overlapped ≡ own → addressed a l ≡ o → Says (choice_of c own o).event
  unfolding addressed opening
  decides hl true own o i j k =
      short_frame
      (ap (λ (b : Bool). b && not (v.flags overlapped))
      (lt-leb 512 whole_bits (is_short (v.numbers frame_size) whole_bits refl (ltb-true (v.numbers frame_size) 512 i))))
  decides hl false true o i j k =
      short_frame (ap (λ (b : Bool). leb 512 whole_bits && not b) j ∙ and-false (leb 512 whole_bits))
  decides hl false false o i j k =
      let g : 512 ≤ v.numbers frame_size = ltb-false (v.numbers frame_size) 512 i in
      let c : long ≡ true = ap₂ ◌&&◌ (le-leb 512 whole_bits (is_long (v.numbers frame_size) whole_bits refl g))
      (ap not j) in
      judged c g o k
    where
      judged : long ≡ true → 512 ≤ v.numbers frame_size → (o : Bool) → addressed a l ≡ o
          → Says (choice_of false false o).event
      judged c g false k = other_frame c k
      judged c g true k =
          subst Says
          (sym (opened_is l (v.numbers frame_size) (v.flags spoiled) octets_now (same_octets
          (v.numbers frame_size) octets_now refl)
          hl (many_octets (v.numbers frame_size) octets_now refl g)))
          (statuses c k _ _ _ _ refl refl refl refl)

module _ (a : List ℕ) (d : Variables) (t : Transmission) (s : Signals) (v : Variables) (w : List Bool)
    (l : List ℕ) where
  abbrev All : Place → Received → Type 0
  All at o = ReceiveTurns a d t s v w l at o

  -- ---- before the delimiter

  module _ (rc : v.flags receiving ≡ true) (cu : v.numbers current_receive_bit ≡ 1) where
    seek_none : (y : Receiver) → is_collecting y ≡ false → row_of y ≡ 1 → spoiled_of y ≡ false → own_of y ≡ false
        → hears_any s.heard ≡ false → All at_seek (deciding y None)
    seek_none y i j k m h =
        record {
          taken = _;
          decided = _;
          closed = _;
          take_place = at_seek;
          close_place = at_seek;
          take_turn = goes (no₁ h (seq (put (seq (put (rows (no₁ refl (again (seq rest)))))))));
          decide_turn = λ u. goes (stay rc rest);
          close_turn = λ u. waits refl;
          got = refl;
          stored = refl;
          keeps = refl;
          stands = seeks i refl (sym j) (omega arith) (sym k) (sym m) rc cu;
        }

    module _ (sp own : Bool) (hs : (v.flags spoiled || is_spoiled s.heard) ≡ sp)
        (ho : (v.flags overlapped || is_emission t.emission) ≡ own) (h : hears_any s.heard ≡ true) where
      seek_on : (row : ℕ) → coded (next_symbols s.heard w) ≡ row → length (next_symbols s.heard w) ≤ 8
          → eqb row delimiter_row ≡ false → All at_seek (hearing (Seeking row sp own) None)
      seek_on row e k f =
          let g : same_bits (next_symbols s.heard w) delimiter ≡ false =
          sym (same_coded (next_symbols s.heard w) delimiter) ∙ ap (λ (n : ℕ). eqb n 427) e ∙ f in
          record {
            taken = _;
            decided = _;
            closed = _;
            take_place = at_seek;
            close_place = at_seek;
            take_turn = goes (yes₁ h (seq (seq (put (put (rows (no₁ g (again (seq rest)))))))));
            decide_turn = λ u. goes (stay rc rest);
            close_turn = λ u. waits refl;
            got = refl;
            stored = refl;
            keeps = refl;
            stands = seeks refl refl e k hs ho rc cu;
          }

      seek_found : (row : ℕ) → coded (next_symbols s.heard w) ≡ row → eqb row delimiter_row ≡ true
          → All at_seek (hearing (Collecting 0 sp own) None)
      seek_found row e f =
          let g : same_bits (next_symbols s.heard w) delimiter ≡ true =
          sym (same_coded (next_symbols s.heard w) delimiter) ∙ ap (λ (n : ℕ). eqb n 427) e ∙ f in
          record {
            taken = _;
            decided = _;
            closed = _;
            take_place = at_collect;
            close_place = at_collect;
            take_turn = goes (yes₁ h (seq (seq (put (put (rows (yes₁ g (pass (seq rest)))))))));
            decide_turn = λ u. goes (stay rc rest);
            close_turn = λ u. waits refl;
            got = refl;
            stored = refl;
            keeps = refl;
            stands = collects 0 sp own refl refl hs ho rc cu;
          }

  -- ---- behind the delimiter

  module _ (n : ℕ) (rc : v.flags receiving ≡ true) (cu : v.numbers current_receive_bit ≡ n + 1) where
    collect_bit_lem : (sp own : Bool) → (v.flags spoiled || is_spoiled s.heard) ≡ sp
        → (v.flags overlapped || is_emission t.emission) ≡ own → hears_any s.heard ≡ true
        → All at_collect (hearing (Collecting (n + 1) sp own) (kept_bit n (bit_of s.heard)))
    collect_bit_lem sp own hs ho h =
        let m : v.numbers current_receive_bit - 1 ≡ n = omega arith in
        let f : eqb (v.numbers current_receive_bit + 1) 1 ≡ false = ne_eqb (v.numbers current_receive_bit + 1) 1
        (λ e. omega arith) in
        record {
          taken = _;
          decided = _;
          closed = _;
          take_place = at_collect;
          close_place = at_collect;
          take_turn =
              goes (seq (yes₁ h (seq (seq (put (put (seq (keeps (num (put (stay h (seq (no₁ f (pass
              (seq rest)))))))))))))));
          decide_turn = λ u. goes (stay h rest);
          close_turn = λ u. waits refl;
          got = refl;
          stored = ap (λ (k : ℕ). kept_bit k (bit_of s.heard)) m;
          keeps = ap (λ (k : ℕ). kept_in l (kept_bit k (bit_of s.heard))) m;
          stands = collects (n + 1) sp own refl refl hs ho h (ap (λ (k : ℕ). k + 1) cu);
        }

    -- the stretch is over
    closing : (y : Receiver) (g : Option ReceiveEvent) → hears_any s.heard ≡ false
        → Decided a d s
        (fresh_reception
        (with_number frame_size (v.numbers current_receive_bit - 1) (with_flag receiving (hears_any s.heard) v)) w l) g
        → is_collecting y ≡ false → row_of y ≡ 1 → spoiled_of y ≡ false → own_of y ≡ false
        → All at_collect (deciding y g)
    closing y g h k i j p q =
        record {
          taken = _;
          decided = k.after;
          closed = _;
          take_place = at_closed;
          close_place = at_seek;
          take_turn = goes (seq (no₁ h (pass (put (leave h (seq (num rest)))))));
          decide_turn = k.turn;
          close_turn = λ u.
              goes (round (seq (stay k.receives (seq (yes₁ (ap (λ (m : ℕ). eqb m 1) k.first) (enter (seq (seq
              (put (seq (put (rows (again (seq rest))))))))))))));
          got = k.event;
          stored = k.bits;
          keeps = k.octets;
          stands = seeks i refl (sym j) (omega arith) (sym p) (sym q) k.receives k.first;
        }

  -- ---- document 01's receiver

  by_rule : (at : Place) (o p : Received) → p ≡ o → All at o → All at p
  by_rule at o p e k = subst (All at) (sym e) k

  module _ (hl : buffer_octets ≤ length l) where
    -- what becomes of a receiver that hears nothing before the delimiter
    seek_ends : (x : Receiver) → is_collecting x ≡ false → v.flags receiving ≡ true → v.numbers current_receive_bit ≡ 1
        → s.heard ≡ Nothing → All at_seek (ended a l x)
    unfolding ended
    seek_ends Listening i rc cu h = seek_none rc cu Listening refl refl refl refl (ap hears_any h)
    seek_ends (Readable n) i rc cu h = seek_none rc cu (Readable n) refl refl refl refl (ap hears_any h)
    seek_ends (Seeking row sp own) i rc cu h = seek_none rc cu Listening refl refl refl refl (ap hears_any h)
    seek_ends (Collecting n sp own) i rc cu h = absurd (true≢false i)

    hear_is : (x : Receiver) (clean b e : Bool) → is_collecting x ≡ false
        → hear x clean b e ≡ seek (row_of x) (spoiled_of x) (own_of x || e) clean b
    unfolding hear
    hear_is Listening clean b e i = refl
    hear_is (Readable n) clean b e i = refl
    hear_is (Seeking row sp own) clean b e i = refl
    hear_is (Collecting n sp own) clean b e i = absurd (true≢false i)

    marks : (sp b : Bool) → s.heard ≡ Clean b → v.flags spoiled ≡ sp → (v.flags spoiled || is_spoiled s.heard) ≡ sp
    marks sp b h e = ap₂ (λ (x : Bool) (y : Heard). x || is_spoiled y) e h ∙ or-false sp

    spoils : (sp : Bool) → s.heard ≡ Spoiled → v.flags spoiled ≡ sp → (v.flags spoiled || is_spoiled
        s.heard) ≡ true
    spoils sp h e = ap₂ (λ (x : Bool) (y : Heard). x || is_spoiled y) e h ∙ or-true sp

    new_row : (row : ℕ) (b : Bool) → s.heard ≡ Clean b → coded w ≡ row → length w ≤ 8
        → coded (next_symbols s.heard w) ≡ next_row row b
    new_row row b h e k =
        ap (λ (y : Heard). coded (next_symbols y w)) h ∙ next_coded w b k ∙ ap (λ (n : ℕ). next_row n b) e

    new_few : (b : Bool) → s.heard ≡ Clean b → length (next_symbols s.heard w) ≤ 8
    new_few b h = subst (λ (y : Heard). length (next_symbols y w) ≤ 8) (sym h) (omega (arith, length-take 7 w))

    seek_clean : (row : ℕ) (b sp own : Bool) → v.flags receiving ≡ true → v.numbers current_receive_bit ≡ 1
        → s.heard ≡ Clean b → v.flags spoiled ≡ sp → (v.flags overlapped || is_emission t.emission) ≡ own
        → coded w ≡ row → length w ≤ 8 → (c : Bool) → eqb (next_row row b) delimiter_row ≡ c
        → All at_seek (hearing (pick c (Collecting 0 sp own) (Seeking (next_row row b) sp own)) None)
    seek_clean row b sp own rc cu h hs ho e k true c =
        seek_found rc cu sp own (marks sp b h hs) ho (ap hears_any h) (next_row row b) (new_row row b h e k) c
    seek_clean row b sp own rc cu h hs ho e k false c =
        seek_on rc cu sp own (marks sp b h hs) ho (ap hears_any h) (next_row row b) (new_row row b h e k) (new_few b h) c

    seek_turns : (x : Receiver) (h : Heard) → s.heard ≡ h → is_collecting x ≡ false → coded w ≡ row_of x → length w ≤ 8
        → v.flags spoiled ≡ spoiled_of x → v.flags overlapped ≡ own_of x → v.flags receiving ≡ true
        → v.numbers current_receive_bit ≡ 1 → All at_seek (receive a l x h (is_emission t.emission))
    unfolding receive seek seek_bit
    seek_turns x Nothing h i e k hs ho rc cu = seek_ends x i rc cu h
    seek_turns x (Clean b) h i e k hs ho rc cu =
        by_rule at_seek _ _ (hear_is x true b (is_emission t.emission) i)
        (seek_clean (row_of x) b (spoiled_of x) (own_of x || is_emission t.emission) rc cu h hs
        (ap (λ (z : Bool). z || is_emission t.emission) ho) e k (eqb (next_row (row_of x) b) delimiter_row) refl)
    seek_turns x Spoiled h i e k hs ho rc cu =
        by_rule at_seek _ _ (hear_is x false false (is_emission t.emission) i)
        (seek_on rc cu true (own_of x || is_emission t.emission) (spoils (spoiled_of x) h hs)
        (ap (λ (z : Bool). z || is_emission t.emission) ho) (ap hears_any h) 1
        (ap (λ (y : Heard). coded (next_symbols y w)) h)
        (subst (λ (y : Heard). length (next_symbols y w) ≤ 8) (sym h) (omega arith)) refl)

    -- behind the delimiter
    abbrev closed_now : Variables
    closed_now = with_number frame_size (v.numbers current_receive_bit - 1) (with_flag receiving (hears_any s.heard) v)

    abbrev length_now : ℕ
    length_now = v.numbers current_receive_bit - 1

    readable : (g : Answer) (n : ℕ) (e : Option ReceiveEvent) → (c : Bool) → eqb (get_or (values_of g) 0 0) 5 ≡ c
        → ((y : Receiver) → is_collecting y ≡ false → row_of y ≡ 1 → spoiled_of y ≡ false → own_of y ≡ false
        → All at_collect (deciding y e))
        → All at_collect (deciding (readable_after g n) e)
    unfolding readable_after
    readable g n e true c k = by_rule at_collect _ _ (ap (λ (b : Bool). deciding (pick b
        (Readable n) Listening) e) c) (k (Readable n) refl refl refl refl)
    readable g n e false c k = by_rule at_collect _ _ (ap (λ (b : Bool). deciding (pick b
        (Readable n) Listening) e) c) (k Listening refl refl refl refl)

    module _ (n : ℕ) (h : s.heard ≡ Nothing) (rc : v.flags receiving ≡ true)
        (cu : v.numbers current_receive_bit ≡ n + 1) where
      closes : (y : Receiver) (g : Option ReceiveEvent) → Decided a d s (fresh_reception closed_now w l) g
          → is_collecting y ≡
          false
          → row_of y ≡ 1 → spoiled_of y ≡ false → own_of y ≡ false → All at_collect (deciding y g)
      closes y g k = closing n rc cu y g (ap hears_any h) k

      decided_turns : (c own o : Bool) → ltb length_now shortest_frame ≡ c → v.flags overlapped ≡ own
          → addressed a l ≡ o
          → All at_collect (choice_of a d s closed_now w l (ap hears_any h) c own o)
      unfolding opening
      decided_turns true own o i j k =
          closes Listening None (decides a d s closed_now w l (ap hears_any h) hl true own o i j k) refl refl refl
          refl
      decided_turns false true o i j k =
          closes Listening None (decides a d s closed_now w l (ap hears_any h) hl false true o i j k) refl refl
          refl refl
      decided_turns false false false i j k =
          closes Listening None (decides a d s closed_now w l (ap hears_any h) hl false false false i j k) refl
          refl refl refl
      decided_turns false false true i j k =
          readable (open_answer l length_now (v.flags spoiled)) (length_now / 8)
          (got_event (open_answer l length_now (v.flags spoiled)) (length_now / 8))
          (eqb (get_or (values_of (open_answer l length_now (v.flags spoiled))) 0 0) 5) refl
          (λ y. closes y (got_event (open_answer l length_now (v.flags spoiled)) (length_now / 8))
          (decides a d s closed_now w l (ap hears_any h) hl false false true i j k))

      decide_turns : (sp own : Bool) → v.flags spoiled ≡ sp → v.flags overlapped ≡ own → All at_collect
          (decide a l n sp own)
      unfolding decide
      decide_turns sp own hs ho =
          let m : length_now ≡ n = omega arith in
          by_rule at_collect _ _
          (sym (ap (λ (k : ℕ). decide a l k (v.flags spoiled) (v.flags overlapped)) m
          ∙ ap₂ (λ (x y : Bool). decide a l n x y) hs ho))
          (decided_turns (ltb length_now shortest_frame) (v.flags overlapped) (addressed a l) refl refl refl)

    collect_turns : (n : ℕ) (sp own : Bool) (h : Heard) → s.heard ≡ h → v.flags spoiled ≡ sp
        → v.flags overlapped ≡ own → v.flags receiving ≡ true → v.numbers current_receive_bit ≡ n + 1
        → All at_collect (receive a l (Collecting n sp own) h (is_emission t.emission))
    unfolding receive hear collect collect_bit stored_bit ended
    collect_turns n sp own Nothing h hs ho rc cu = decide_turns n h rc cu sp own hs ho
    collect_turns n sp own (Clean b) h hs ho rc cu =
        by_rule at_collect _ _
        (ap (λ (y : Heard). hearing (Collecting (n + 1) (sp || false) (own || is_emission t.emission)) (kept_bit n
        (bit_of y))) (sym h))
        (collect_bit_lem n rc cu (sp || false) (own || is_emission t.emission)
        (ap₂ (λ (x : Bool) (y : Heard). x || is_spoiled y) hs h) (ap (λ (z : Bool). z || is_emission t.emission) ho)
        (ap hears_any h))
    collect_turns n sp own Spoiled h hs ho rc cu =
        by_rule at_collect _ _
        (ap (λ (y : Heard). hearing (Collecting (n + 1) (sp || true) (own || is_emission t.emission)) (kept_bit n
        (bit_of y))) (sym h))
        (collect_bit_lem n rc cu (sp || true) (own || is_emission t.emission)
        (ap₂ (λ (x : Bool) (y : Heard). x || is_spoiled y) hs h) (ap (λ (z : Bool). z || is_emission t.emission) ho)
        (ap hears_any h))

    pub receive_turns : (x : Receiver) (at : Place) → ReceiveAt v w x at
        → All at (receive a l x s.heard (is_emission t.emission))
    receive_turns x at (seeks i q e k hs ho rc cu) =
        subst (λ (p : Place). All p (receive a l x s.heard (is_emission t.emission))) (sym q)
        (seek_turns x s.heard refl i e k hs ho rc cu)
    receive_turns x at (collects n sp own i q hs ho rc cu) =
        subst₂ (λ (p : Place) (y : Receiver). All p (receive a l y s.heard (is_emission t.emission))) (sym q)
        (sym i)
        (collect_turns n sp own s.heard refl hs ho rc cu)
