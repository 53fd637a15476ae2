-- The parts that C's calls of a panel that meets its contracts send are those of the definitions (session_stated), and a GET RESPONSE that nothing stands
-- against makes progress.
use Prim.Native.Nat.{ℕ, ◌+◌, ◌<◌, ◌≤◌}
use mathlib.Core.Path.{◌≡◌, refl, ap, ap₂, sym, ◌∙◌}
use mathlib.Core.List.{List, [], ◌∷◌, ◌++◌, append-nil}
use mathlib.Core.Logic.{⊎_elim}
use native.Mathlib.Omega.{arith}
use native.Mathlib.Decide.{ℕ_discrete}
use borrow.Author.Tests.{ne_eqb}
use mathlib.Core.Bool.{Bool, true, false}
use lib.Dec.{eqb, ltb}
use lib.ListN.{length, take, drop, length-take, length-drop, length-append}
use Rattle.outcome.specs.Notation.{when◌then◌else◌}
use Rattle.outcome.specs.Outcome.{StatusWord, Outcome, R, Word, Gives, last_refusal}
use Rattle.outcome.proofs.Laws.{r_word, word_gives}
use Rattle.command_stated.proofs.Laws.{GetResponseExactly}
use Rattle.apdu_stated.specs.Answers.{Says}
use Rattle.apdu_stated.specs.Reading.{read_of}
use Rattle.command_stated.specs.Command.{Command, Register, Authenticate, Version, GetResponse, command_of}
use Rattle.response_stated.specs.declared.Remainder.{Remainder}
use Rattle.response_stated.specs.Words.{rest}
use Rattle.response_stated.specs.declared.Sent.{Sent}
use Rattle.response_stated.specs.Responses.{response_body_of}
use Rattle.response_stated.specs.Parts.{limit_of, part_length, rest_after, next_part_of, response_room_of}
use Rattle.response_stated.specs.Terms.{sending_of}
use Rattle.response_stated.specs.Fetching.{Fetch, got, left, remaining, called}
use Rattle.response_stated.proofs.Laws.{part_some, part_most, part_monotone, rest_end, rest_less, step_joins, NextWay, short_body, short_buffer, given, next_way}
use Rattle.u2f_up_stated.specs.declared.Presence.{Presence}
use Rattle.u2f_up_stated.specs.Moments.{settle_of}
use Rattle.u2f_up_stated.specs.Terms.{NotRefused}
use Rattle.u2f_up_stated.proofs.Laws.{settle_no_status}
use Rattle.ctap1_stated.specs.Words.{DecisionGives, Body, Ordered, Part, Inputs, DecisionResult}
use Rattle.ctap1_stated.specs.Path.{frame_limit, sent_path, path_of, allowed_path, command_path, fetch_path}
use Rattle.ctap1_stated.specs.Numbers.{allowed_of}
use Rattle.ctap1_stated.specs.Decision.{on_moment, decision_of}
use Rattle.ctap1_stated.specs.Session.{is_get_response, remainder_after, remainder_left, part_left}
use Rattle.ctap1_stated.specs.Terms.{HasInsC0, Comes}
use Rattle.ctap1_stated.proofs.Laws.{is_a_part, served, nothing_left, comes_c0}
use Rattle.ctap1_stated.proofs.Theorems.{AllowedNumbers}
use Rattle.session_stated.specs.Sessions as S
use Rattle.session_stated.proofs.Laws.{joins_over}
use Rattle.panel_stated.specs.declared.CommandSaid.{CommandSaid}
use Rattle.panel_stated.specs.declared.FrameSaid.{FrameSaid}
use Rattle.panel_stated.specs.declared.DecisionSaid.{DecisionSaid}
use Rattle.panel_stated.specs.declared.Wrote.{Wrote}
use Rattle.panel_stated.specs.declared.RoomSaid.{RoomSaid}
use Rattle.u2f_up_stated.specs.Numbers.{presence_in}
use Rattle.session_stated.specs.declared.Session.{Session}
use Rattle.session_stated.specs.Held.{remainder_in, session_in, session_after, frame_room_of}
use Rattle.session_stated.specs.Promises.{inputs_in}
use Rattle.panel_stated.specs.Numbers.{decided_no}
use Rattle.panel_stated.specs.Terms.{IsNumbered}
use Rattle.panel_stated.specs.Exports.{ToDecide, body_length, frame_numbers, command_numbers, sent_numbers, sent_over, room_numbers, rooms_of}
use Rattle.panel_stated.proofs.Outcomes as Outcomes
use Rattle.demands.specs.Panel.{Panel, Meets}
use Rattle.demands.specs.Sessions.{fetching, IsC0, IsGetResponse, Unhindered, Each, none, also, bytes_of, first_bytes, fetch, fetched, left_after}

-- ---- frames and commands by their numbers
has_c0 : (o : Outcome Says) → IsNumbered o → (frame_numbers o).answer ≡ 0x9000 → (frame_numbers o).ins ≡ 0xC0 → (said : Says) × (o ≡ Gives said) × (said.header.ins ≡ 0xC0)
has_c0 (R n) h e f = absurd (omega arith)
has_c0 (Word s) h e f = absurd (omega arith)
has_c0 (Gives said) h e f = (said, refl, f)

get_response : (o : Outcome Command) → IsNumbered o → (command_numbers o).answer ≡ 0x9000 → (command_numbers o).command ≡ 0xC0 → o ≡ Gives GetResponse
get_response (R n) h e f = absurd (omega arith)
get_response (Word s) h e f = absurd (omega arith)
get_response (Gives Version) h e f = absurd (omega arith)
get_response (Gives GetResponse) h e f = refl
get_response (Gives (Register s)) h e f = absurd (omega arith)
get_response (Gives (Authenticate p1 s)) h e f = absurd (omega arith)

-- ---- what goes out
sent_same : (o : Outcome DecisionGives) (after : List ℕ) → IsNumbered o
    → (when eqb (decided_no o) 0x0200 then response_body_of (take (body_length o) after) else []) ≡ response_body_of (S.sent_with o after)
sent_same (R n) after h = rw (ne_eqb n 0x0200 (λ e. omega arith))
sent_same (Word s) after h = rw (ne_eqb s.number 0x0200 (λ e. omega arith))
sent_same (Gives (Body n)) after h = refl
sent_same (Gives Ordered) after h = refl
sent_same (Gives (Part n r)) after h = refl

first_same : (o : Outcome Sent) (after : List ℕ) → IsNumbered o
    → (when eqb (sent_numbers o).answer 0x9000 then response_body_of (take (sent_numbers o).length after) else []) ≡ response_body_of (got (o, after))
first_same (R n) after h = rw (ne_eqb n 0x9000 (λ e. omega arith))
first_same (Word s) after h = rw (ne_eqb s.number 0x9000 (λ e. omega arith))
first_same (Gives sent) after h = refl

first_left : (o : Outcome Sent) (s : Session) → (sent_over o s).remainder ≡ left s.remainder o
first_left (R n) s = refl
first_left (Word w) s = refl
first_left (Gives sent) s = refl

-- what remains of a session after a decision
remains : (o : Outcome DecisionGives) (read : Outcome Says) (s : Session) → (session_after o read s).remainder ≡ remainder_after o (is_get_response read) s.remainder
remains (R n) read s = refl
remains (Word w) read s = refl
remains (Gives g) read s = refl

-- the room that is said for a frame
room_by : (limit longest : ℕ) → (room_numbers (response_room_of limit longest)).answer ≡ 0x9000 → response_room_of limit longest ≡ Gives (part_length limit longest + 2)
unfolding response_room_of
room_by limit longest e = by (ltb (part_length limit longest) 0xfffffffffffffffe) e
  where
    by : (b : Bool) → (room_numbers (when b then Gives (part_length limit longest + 2) else R 2)).answer ≡ 0x9000 → (when b then Gives (part_length limit longest + 2) else R 2) ≡ Gives (part_length limit longest + 2)
    by true x = refl
    by false x = absurd (omega (arith, x))

pub room_is : (frame : List ℕ) (said : Says) (longest : ℕ) → read_of frame ≡ Gives said → (rooms_of frame longest).answer ≡ 0x9000 → frame_room_of frame longest ≡ Gives (part_length (frame_limit frame) longest + 2)
unfolding frame_room_of frame_limit
room_is frame said longest r e = rw r (room_by (limit_of said) longest (rw r at e))

abbrev visit_of : ToDecide → S.Visit
visit_of i = record { presence = presence_in i.presence; moment = i.moment; lent = inputs_in i; buffer = i.part }

abbrev visits : List ToDecide → List S.Visit
visits [] = []
visits (i ∷ is) = visit_of i ∷ visits is

module _ (P : Panel) (M : Meets P) where
  is_c0 : (i : ToDecide) → IsC0 P i → HasInsC0 (inputs_in i)
  is_c0 i (e, f) =
      has_c0 (read_of i.frame) (Outcomes.read_said i.frame)
      (ap (λ (s : FrameSaid). s.answer) (sym (M.read i.frame)) ∙ e) (ap (λ (s : FrameSaid). s.ins) (sym (M.read i.frame)) ∙ f)

  comes : (i : ToDecide) → IsGetResponse P i → Comes (inputs_in i) GetResponse
  comes i (e, f, g) = (
    ap allowed_of g ∙ AllowedNumbers.granted,
    get_response (command_of i.frame) (Outcomes.command_said i.frame)
        (ap (λ (s : CommandSaid). s.answer) (sym (M.read_command i.frame)) ∙ e) (ap (λ (s : CommandSaid). s.command) (sym (M.read_command i.frame)) ∙ f),
  )

  module _ (body : List ℕ) where
    bytes_same : (r : Remainder) (i : ToDecide) → bytes_of (fetch P body r i) ≡ response_body_of (S.sent_in decision_of remainder_left part_left body r (visit_of i))
    bytes_same r i =
        let m = M.decide (fetching body r i) in
        ap₂ (λ (s : DecisionSaid) (after : List ℕ). when eqb s.answer 0x0200 then response_body_of (take s.length after) else []) m.0 m.5
        ∙ sent_same (decision_of (presence_in i.presence) i.moment (inputs_in (fetching body r i))).answer _
        (Outcomes.decision_said (presence_in i.presence) i.moment (inputs_in (fetching body r i)))

    pub left_same : (r : Remainder) (i : ToDecide) → remainder_in (fetch P body r i).session ≡ S.left_in decision_of remainder_left part_left body r (visit_of i)
    left_same r i =
        ap (λ (s : Session). s.remainder) (M.decide (fetching body r i)).2
        ∙ remains (decision_of (presence_in i.presence) i.moment (inputs_in (fetching body r i))).answer (read_of i.frame) (session_in (fetching body r i).session)

    pub fetched_same : (r : Remainder) (is : List ToDecide) → fetched P body r is ≡ S.joined_over decision_of remainder_left part_left body r (visits is)
    unfolding fetched
    fetched_same r [] = refl
    fetched_same r (i ∷ is) =
        ap₂ (λ (a : List ℕ) (k : Remainder). a ++ fetched P body k is) (bytes_same r i) (left_same r i)
        ∙ ap (λ (l : List ℕ). response_body_of (S.sent_in decision_of remainder_left part_left body r (visit_of i)) ++ l) (fetched_same (S.left_in decision_of remainder_left part_left body r (visit_of i)) is)

    pub after_same : (r : Remainder) (is : List ToDecide) → left_after P body r is ≡ S.left_over decision_of remainder_left part_left body r (visits is)
    unfolding left_after
    after_same r [] = refl
    after_same r (i ∷ is) = ap (λ (k : Remainder). left_after P body k is) (left_same r i) ∙ after_same (S.left_in decision_of remainder_left part_left body r (visit_of i)) is

    each_fetches : {is : List ToDecide} → Each (IsC0 P) is → S.Each S.IsFetch (visits is)
    each_fetches none = S.none
    each_fetches (also {i} x e) = S.also (is_c0 i x) (each_fetches e)

    -- what went out, and then what is left
    pub joins : (r : Remainder) (is : List ToDecide) → S.Each S.IsFetch (visits is) → fetched P body r is ++ remaining body (left_after P body r is) ≡ remaining body r
    joins r is e = rw (fetched_same r is, after_same r is) (joins_over body r (visits is) e)

    pub so_far : (buffer : List ℕ) (n limit : ℕ) (is : List ToDecide) → n ≤ length body → Each (IsC0 P) is
        → first_bytes (P.next_part (record { place = 0; count = n; limit = limit }) body buffer)
        ++ (fetched P body (remainder_in (P.next_part (record { place = 0; count = n; limit = limit }) body buffer).session) is
        ++ remaining body (left_after P body (remainder_in (P.next_part (record { place = 0; count = n; limit = limit }) body buffer).session) is))
        ≡ take n body
    so_far buffer n limit is h e =
        let m = M.next_part (record { place = 0; count = n; limit = limit }) body buffer in
        let o = next_part_of (length body) (rest 0 n) limit (length buffer) in
        let a : Fetch = record { limit = limit; buffer = buffer } in
        let p = P.next_part (record { place = 0; count = n; limit = limit }) body buffer in
        let bytes : first_bytes p ≡ response_body_of (got (called sending_of body (rest 0 n) a)) =
        ap₂ (λ (s : Wrote) (after : List ℕ). when eqb s.answer 0x9000 then response_body_of (take s.length after) else []) m.0 m.2
        ∙ first_same o _ (Outcomes.next_said (length body) (rest 0 n) limit (length buffer)) in
        let lefts : remainder_in p.session ≡ left (rest 0 n) o = ap (λ (s : Session). s.remainder) m.1 ∙ first_left o (record { remainder = rest 0 n; limit = limit }) in
        ap₂ (λ (x y : List ℕ). x ++ y) bytes (joins (remainder_in p.session) is (each_fetches e) ∙ ap (remaining body) lefts)
        ∙ step_joins body (rest 0 n) a (omega arith)

-- ---- progress
next_no_word : (room : ℕ) (r : Remainder) (limit part_room : ℕ) (s : StatusWord) → next_part_of room r limit part_room ≡ Word s → ⊥
next_no_word room r limit part_room s e = by (next_part_of room r limit part_room) (next_way room r limit part_room) e
  where
    by : (o : Outcome Sent) → NextWay room r limit part_room o → o ≡ Word s → ⊥
    by _ (short_body h) x = r_word _ _ x
    by _ (short_buffer g h) x = r_word _ _ x
    by _ (given g h) x = word_gives _ _ (sym x)

-- a fetch that is not refused gets a part
unrefused : (p : Presence) (s t : ℕ) (nx : Outcome Sent) (o : Outcome Presence) → IsNumbered nx → IsNumbered o
    → ((w : StatusWord) → nx ≡ Word w → ⊥) → ((w : StatusWord) → o ≡ Word w → ⊥)
    → 8 < decided_no (on_moment p s t (sent_path nx) o).answer
    → (n : ℕ) × (after : Remainder) × ((on_moment p s t (sent_path nx) o).answer ≡ Gives (Part n after))
unrefused p s t nx (R m) hn h a b e = absurd (omega arith)
unrefused p s t nx (Word w) hn h a b e = absurd (b w refl)
unrefused p s t (R m) (Gives q) hn h a b e = absurd (omega arith)
unrefused p s t (Word w) (Gives q) hn h a b e = absurd (a w refl)
unrefused p s t (Gives sent) (Gives q) hn h a b e = (sent.length, sent.remainder, refl)

path_is : (a : Inputs) → Comes a GetResponse → (a.remainder.count ≡ 0 → ⊥) → path_of a ≡ sent_path (next_part_of a.room a.remainder (frame_limit a.frame) a.part_room)
unfolding path_of allowed_path command_path fetch_path
path_is a c some = rw (c.0, c.1, ne_eqb a.remainder.count 0 some)

decided_part : (p : Presence) (t : ℕ) (a : Inputs) → Comes a GetResponse → 0 < a.remainder.count → 8 < decided_no (decision_of p t a).answer
    → (n : ℕ) × (after : Remainder) × ((decision_of p t a).answer ≡ Gives (Part n after))
unfolding decision_of
decided_part p t a c some e =
    let path = path_is a c (λ z. omega arith) in
    rw path
    (unrefused p a.side t (next_part_of a.room a.remainder (frame_limit a.frame) a.part_room) (settle_of p a.side t)
    (Outcomes.next_said _ _ _ _) (Outcomes.settle_said p a.side t) (next_no_word _ _ _ _) (settle_no_status p a.side t) (rw path at e))

-- how many bytes remain
remaining_long : (body : List ℕ) (r : Remainder) → r.place + r.count ≤ length body → length (remaining body r) ≡ r.count
remaining_long body r h = simp (length-take, length-drop) (omega arith)

module _ (P : Panel) (M : Meets P) (body : List ℕ) where
  -- the two sides' words for a C0
  gets_fetches : (i : ToDecide) → IsGetResponse P i → S.IsFetch (visit_of i)
  gets_fetches i g = let f = (GetResponseExactly i.frame).0 (comes P M i g).1 in (f.0, f.1, f.3)

  one_joins : (r : Remainder) (i : ToDecide) → IsGetResponse P i → bytes_of (fetch P body r i) ++ remaining body (remainder_in (fetch P body r i).session) ≡ remaining body r
  unfolding fetched left_after
  one_joins r i g =
      ap (λ (l : List ℕ). l ++ remaining body (remainder_in (fetch P body r i).session)) (sym (append-nil (bytes_of (fetch P body r i))))
      ∙ joins P M body r (i ∷ []) (S.also (gets_fetches i g) S.none)

  pub takes : (r : Remainder) (i : ToDecide) → IsGetResponse P i → 0 < r.count → last_refusal < (fetch P body r i).said.answer
      → ((fetch P body r i).said.answer ≡ 0x0200)
      × (1 ≤ length (bytes_of (fetch P body r i)))
      × (length (bytes_of (fetch P body r i)) + (remainder_in (fetch P body r i).session).count ≡ r.count)
  takes r i g some e =
      let p = presence_in i.presence in
      let a = inputs_in (fetching body r i) in
      let m = (M.decide (fetching body r i)).0 in
      let number : (fetch P body r i).said.answer ≡ decided_no (decision_of p i.moment a).answer = ap (λ (s : DecisionSaid). s.answer) m in
      let x = decided_part p i.moment a (comes P M i g) some (omega (arith, number, e)) in
      let f = is_a_part p i.moment a x.0 x.1 x.2 in
      let limit = frame_limit i.frame in
      let lefts : remainder_in (fetch P body r i).session ≡ rest_after r limit = left_same P M body r i ∙ ap (λ (o : Outcome DecisionGives). remainder_after o (is_get_response (read_of i.frame)) r) x.2 ∙ f.left in
      let joined = simp length-append at (ap length (one_joins r i g)) in
      let before = remaining_long body r f.within in
      let after = remaining_long body (rest_after r limit) (omega (arith, rest_end r limit, f.within)) in
      let count : (remainder_in (fetch P body r i).session).count ≡ (rest_after r limit).count = ap (λ (k : Remainder). k.count) lefts in
      let long : length (remaining body (remainder_in (fetch P body r i).session)) ≡ (rest_after r limit).count = ap (λ (k : Remainder). length (remaining body k)) lefts ∙ after in
      (number ∙ ap decided_no x.2, omega (arith, joined, before, long, part_some limit r.count some, part_most limit r.count), omega (arith, joined, before, long, count))

  -- nothing stands against it
  passes : (n : ℕ) (i : ToDecide) → Unhindered P n i → NotRefused (presence_in i.presence) i.side i.moment
  passes n i u = (
    λ b. ⊎_elim (λ z. omega (arith, u.window.0)) (λ z. omega (arith, u.window.1)) b,
    λ b. ⊎_elim (λ z. omega (arith, u.sides.0)) (λ z. omega (arith, u.sides.1)) b,
    λ b. ⊎_elim (λ z. omega (arith, u.moments.1)) (λ z. omega (arith, u.moments.0)) b,
  )

  -- one of them: nothing was left, or the next part goes out
  kept : (n : ℕ) (r : Remainder) (i : ToDecide) → Unhindered P n i → r.count ≡ 0 → remainder_in (fetch P body r i).session ≡ r
  kept n r i u z =
      let c = comes P M i u.get_response in
      left_same P M body r i
      ∙ ap (λ (x : DecisionResult). remainder_left (inputs_in (fetching body r i)) x) (nothing_left (presence_in i.presence) i.moment (inputs_in (fetching body r i)) (passes n i u) c z)
      ∙ rw (comes_c0 (inputs_in i) c)

  fits : (n count : ℕ) (i : ToDecide) → Unhindered P n i → count ≤ n → part_length (frame_limit i.frame) count + 2 ≤ length i.part
  fits n count i u most =
      let f = (GetResponseExactly i.frame).0 (comes P M i u.get_response).1 in
      let m = M.response_room i.frame n in
      let long = ap (λ (o : Outcome ℕ). (room_numbers o).length) (room_is i.frame f.0 n f.1 (ap (λ (s : RoomSaid). s.answer) (sym m) ∙ u.room.0)) in
      omega (arith, part_monotone (frame_limit i.frame) count n most, long, ap (λ (s : RoomSaid). s.length) m, u.room.1)

  moved : (n : ℕ) (r : Remainder) (i : ToDecide) → Unhindered P n i → 0 < r.count → r.count ≤ n → r.place + r.count ≤ length body
      → remainder_in (fetch P body r i).session ≡ rest_after r (frame_limit i.frame)
  moved n r i u some most within =
      let c = comes P M i u.get_response in
      left_same P M body r i
      ∙ ap (λ (x : DecisionResult). remainder_left (inputs_in (fetching body r i)) x)
      (served (presence_in i.presence) i.moment (inputs_in (fetching body r i)) (passes n i u, c, some) within (fits n r.count i u most))

  all_left : (n : ℕ) (r : Remainder) (is : List ToDecide) → r.place + r.count ≤ length body → r.count ≤ n → Each (Unhindered P n) is → r.count ≤ length is
      → (left_after P body r is).count ≡ 0
  unfolding left_after
  all_left n r [] within most e low = omega arith
  all_left n r (i ∷ is) within most (also u e) low =
      by (λ (k : Remainder) (h : k.place + k.count ≤ length body) (m : k.count ≤ n) (l : k.count ≤ length is). all_left n k is h m e l) (ℕ_discrete r.count 0)
    where
      by : ((k : Remainder) → k.place + k.count ≤ length body → k.count ≤ n → k.count ≤ length is → (left_after P body k is).count ≡ 0)
          → Dec (r.count ≡ 0) → (left_after P body (remainder_in (fetch P body r i).session) is).count ≡ 0
      by go (yes z) = rw (kept n r i u z) (go r within most (omega arith))
      by go (no z) =
          let limit = frame_limit i.frame in
          let some : 0 < r.count = omega (arith, z) in
          rw (moved n r i u some most within)
          (go (rest_after r limit) (omega (arith, rest_end r limit)) (omega (arith, rest_less r limit)) (omega (arith, part_some limit r.count some)))

  each_gets : (n : ℕ) {is : List ToDecide} → Each (Unhindered P n) is → S.Each S.IsFetch (visits is)
  each_gets n none = S.none
  each_gets n (also {i} u e) = S.also (gets_fetches i u.get_response) (each_gets n e)

  pub enough : (r : Remainder) (is : List ToDecide) → r.place + r.count ≤ length body → Each (Unhindered P r.count) is → r.count ≤ length is
      → ((left_after P body r is).count ≡ 0) × (fetched P body r is ≡ remaining body r)
  enough r is within e low =
      let z = all_left r.count r is within (omega arith) e low in (
        z,
        sym (append-nil (fetched P body r is))
            ∙ ap (λ (k : ℕ). fetched P body r is ++ take k (drop (left_after P body r is).place body)) (sym z)
            ∙ joins P M body r is (each_gets r.count e),
      )
