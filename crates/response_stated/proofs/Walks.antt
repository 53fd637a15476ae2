-- A sequence of calls: what they send, joined, what remains after them, and how many there are up to the one that carries 9000.
use Prim.Native.Nat.{ℕ, zero, suc, ◌+◌, ◌-◌, ◌<◌, ◌≤◌}
use mathlib.Core.Path.{◌≡◌, refl, ap, ap₂, sym, ◌∙◌}
use mathlib.Core.Bool.{Bool}
use mathlib.Core.List.{List, [], ◌∷◌, ◌++◌, append_assoc, append-nil}
use mathlib.Core.Logic.{inl, inr}
use native.Mathlib.Omega.{arith}
use native.Mathlib.Decide.{dec_lt, ℕ_discrete}
use native.Mathlib.Nat.{zero-mul, suc-mul}
use borrow.Author.Tests.{ne_eqb}
use lib.Dec.{eqb}
use lib.ListN.{length, take, drop}
use Rattle.outcome.specs.Notation.{when◌then◌else◌}
use Rattle.outcome.specs.Outcome.{Outcome, Gives}
use Rattle.response_stated.specs.Words.{Remainder, rest, Sent}
use Rattle.response_stated.specs.Responses.{read_response_of, response_body_of}
use Rattle.response_stated.specs.Parts.{part_length, left_status, rest_after, part_bytes, part_response, part_laid}
use Rattle.response_stated.specs.Terms.{sending_of, sending, Sends}
use Rattle.response_stated.specs.Fetching.{Fetch, got, left, is_done, remaining, called, joined, after, calls_until_done, Each, none, also, HasRoom, Takes, RoundsUp, one, up}
use Rattle.response_stated.proofs.Cases
use Rattle.response_stated.proofs.OnBytes
use Rattle.response_stated.proofs.Ways

-- ---- rounding up
up_some : (L : ℕ) {n k : ℕ} → RoundsUp n L k → 1 ≤ k
up_some L (one z) = omega arith
up_some L (up k low high) = omega arith

module _ (L : ℕ) (some : 1 ≤ L) where
  up_one : (n k : ℕ) → RoundsUp n L k → n ≤ L → k ≡ 1
  up_one n _ (one z) h = refl
  up_one n _ (up zero low high) h = refl
  up_one n _ (up (suc k) low high) h = absurd (omega (arith, suc-mul k L))

  up_more : (n k : ℕ) → RoundsUp n L k → L < n → (j : ℕ) × (k ≡ 1 + j) × RoundsUp (n - L) L j
  up_more n _ (one z) h = absurd (omega arith)
  up_more n _ (up zero low high) h = absurd (omega (arith, zero-mul L))
  up_more n _ (up (suc k) low high) h = (1 + k, omega arith, up k (omega (arith, suc-mul k L)) (omega (arith, suc-mul k L)))

module _ (body : List ℕ) where
  -- ---- one call, whatever comes of it
  module _ (r : Remainder) (a : Fetch) (within : r.place + r.count ≤ length body) where
    pub step_within : (left r (called sending_of body r a).0).place + (left r (called sending_of body r a).0).count ≤ length body
    step_within = go (Ways.next_way (length body) r a.limit (length a.buffer))
      where
        go : {o : Outcome Sent} → Ways.NextWay (length body) r a.limit (length a.buffer) o → (left r o).place + (left r o).count ≤ length body
        go (Ways.short_body h) = within
        go (Ways.short_buffer h g) = within
        go (Ways.given h g) = omega (arith, Ways.rest_end r a.limit)

    -- with room, the response at the buffer's front is the part's
    module _ (room : part_length a.limit r.count + 2 ≤ length a.buffer) where
      call_is : called sending_of body r a
          ≡ (
            Gives (sending (part_length a.limit r.count + 2) (rest_after r a.limit)),
            part_response body r a.limit ++ drop (part_length a.limit r.count + 2) a.buffer,
          )
      call_is = OnBytes.sends_given body r a.limit a.buffer within room

      got_is : got (called sending_of body r a) ≡ part_response body r a.limit
      got_is =
          ap got call_is
          ∙ ap (λ (k : ℕ). take (k + 2) (part_response body r a.limit ++ drop (part_length a.limit r.count + 2) a.buffer)) (sym (Ways.part_long body r a.limit within))
          ∙ OnBytes.front_of (part_bytes body r a.limit) _ _

      left_is : left r (called sending_of body r a).0 ≡ rest_after r a.limit
      left_is = ap (λ (o : Outcome Sent × List ℕ). left r o.0) call_is

      told_is : is_done (read_response_of (got (called sending_of body r a))) ≡ eqb (left_status (rest_after r a.limit).count) 0x9000
      told_is =
          ap (λ (l : List ℕ). is_done (read_response_of l)) got_is
          ∙ ap is_done (OnBytes.read_back (part_bytes body r a.limit) _ _)
          ∙ ap (λ (k : ℕ). eqb k 0x9000) (OnBytes.halves (left_status (rest_after r a.limit).count))

    pub step_joins : response_body_of (got (called sending_of body r a)) ++ remaining body (left r (called sending_of body r a).0) ≡ remaining body r
    step_joins = go (dec_lt (length a.buffer) (part_length a.limit r.count + 2))
      where
        go : Dec (length a.buffer < part_length a.limit r.count + 2)
            → response_body_of (got (called sending_of body r a)) ++ remaining body (left r (called sending_of body r a).0) ≡ remaining body r
        go (yes short) =
            ap (λ (o : Outcome Sent). response_body_of (got (o, part_laid o (part_response body r a.limit) a.buffer)) ++ remaining body (left r o))
            (sym (Cases.next_no_room (length body) r a.limit (length a.buffer) within short))
        go (no n) =
            ap₂ (λ (l : List ℕ) (x : Remainder). response_body_of l ++ remaining body x) (got_is (omega arith)) (left_is (omega arith))
            ∙ ap (λ (l : List ℕ). l ++ remaining body (rest_after r a.limit)) (OnBytes.cut_back (part_bytes body r a.limit) _ _)
            ∙ Ways.part_joins body r a.limit

  -- ---- all calls
  pub joins : (r : Remainder) (fetches : List Fetch) → r.place + r.count ≤ length body
      → joined sending_of body r fetches ++ remaining body (after sending_of body r fetches) ≡ remaining body r
  joins r [] h = refl
  joins r (a ∷ fetches) h =
      append_assoc (response_body_of (got (called sending_of body r a))) _ _
      ∙ ap (λ (l : List ℕ). response_body_of (got (called sending_of body r a)) ++ l) (joins (left r (called sending_of body r a).0) fetches (step_within r a h))
      ∙ step_joins r a h

  -- the part with 9000 is all that remained
  pub joined_done : (r : Remainder) (fetches : List Fetch) (a : Fetch) (part : List ℕ) (gone : Remainder) → r.place + r.count ≤ length body
      → Sends (called sending_of body (after sending_of body r fetches) a) part 0x9000 gone → joined sending_of body r fetches ++ part ≡ remaining body r
  joined_done r fetches a part gone h s =
      let last = after sending_of body r fetches in
      let x = OnBytes.shown body last a.limit a.buffer part 0x9000 gone s in
      let gone_is : gone.count ≡ (rest_after last a.limit).count = ap (λ (y : Remainder). y.count) x.left_is in
      let nothing : gone.count ≡ 0 = last_is gone.count (sym x.status_is) in
      let all : part_bytes body last a.limit ≡ remaining body last =
      sym (append-nil (part_bytes body last a.limit))
      ∙ ap (λ (k : ℕ). part_bytes body last a.limit ++ take k (drop (rest_after last a.limit).place body)) (sym nothing ∙ gone_is)
      ∙ Ways.part_joins body last a.limit in
      ap (λ (l : List ℕ). joined sending_of body r fetches ++ l) (x.part_is ∙ all) ∙ joins r fetches h
    where
      last_is : (left : ℕ) → left_status left ≡ 0x9000 → left ≡ 0
      last_is left e = go (ℕ_discrete left 0) (dec_lt left 256)
        where
          go : Dec (left ≡ 0) → Dec (left < 256) → left ≡ 0
          go (yes z) d = z
          go (no n) (yes h) = absurd (omega (arith, Cases.left_some left n h))
          go (no n) (no h) = absurd (omega (arith, Cases.left_many left n (omega arith)))

  -- ---- how many
  module _ (r : Remainder) (a : Fetch) (fetches : List Fetch) (within : r.place + r.count ≤ length body) (room : part_length a.limit r.count + 2 ≤ length a.buffer) where
    calls_step : calls_until_done sending_of body r (a ∷ fetches)
        ≡ (when eqb (left_status (rest_after r a.limit).count) 0x9000 then 1 else 1 + calls_until_done sending_of body (rest_after r a.limit) fetches)
    calls_step =
        ap₂ (λ (b : Bool) (x : Remainder). when b then 1 else 1 + calls_until_done sending_of body x fetches) (told_is r a within room) (left_is r a within room)

    calls_last : (rest_after r a.limit).count ≡ 0 → calls_until_done sending_of body r (a ∷ fetches) ≡ 1
    calls_last z = calls_step ∙ rw (z, ← Cases.left_none 0 refl)

    calls_on : 1 ≤ (rest_after r a.limit).count → calls_until_done sending_of body r (a ∷ fetches) ≡ 1 + calls_until_done sending_of body (rest_after r a.limit) fetches
    calls_on some = calls_step ∙ rw (ne_eqb (left_status (rest_after r a.limit).count) 0x9000 (apart (rest_after r a.limit).count some))
      where
        apart : (left : ℕ) → 1 ≤ left → left_status left ≡ 0x9000 → ⊥
        apart left h e = go (dec_lt left 256)
          where
            go : Dec (left < 256) → ⊥
            go (yes g) = omega (arith, Cases.left_some left (λ z. omega arith) g)
            go (no g) = omega (arith, Cases.left_many left (λ z. omega arith) (omega arith))

  roomy : (m : ℕ) (r : Remainder) (a : Fetch) → r.count ≤ m → HasRoom m a → part_length a.limit r.count + 2 ≤ length a.buffer
  roomy m r a h (inl room) = omega (arith, Ways.part_most a.limit r.count)
  roomy m r a h (inr (some, room)) = omega (arith, Ways.part_limit a.limit r.count some)

  pub calls_none : (fetches : List Fetch) → Each (HasRoom 0) fetches → calls_until_done sending_of body (rest 0 0) fetches ≤ 1
  calls_none [] none = omega arith
  calls_none (a ∷ fetches) (also room rooms) =
      omega (arith, calls_last (rest 0 0) a fetches (omega arith) (roomy 0 (rest 0 0) a (omega arith) room) (omega arith))

  pub calls_most : (m : ℕ) (r : Remainder) (fetches : List Fetch) → r.place + r.count ≤ length body → r.count ≤ m → 1 ≤ r.count → Each (HasRoom m) fetches
      → calls_until_done sending_of body r fetches ≤ r.count
  calls_most m r [] h most some none = omega arith
  calls_most m r (a ∷ fetches) h most some (also room rooms) =
      go (ℕ_discrete (rest_after r a.limit).count 0)
      (λ on. calls_most m (rest_after r a.limit) fetches (omega (arith, Ways.rest_end r a.limit)) (omega arith) on rooms)
    where
      go : Dec ((rest_after r a.limit).count ≡ 0)
          → (1 ≤ (rest_after r a.limit).count → calls_until_done sending_of body (rest_after r a.limit) fetches ≤ (rest_after r a.limit).count)
          → calls_until_done sending_of body r (a ∷ fetches) ≤ r.count
      go (yes z) more = omega (arith, calls_last r a fetches h (roomy m r a most room) z)
      go (no n) more =
          let on : 1 ≤ (rest_after r a.limit).count = omega arith in
          omega (arith, Ways.part_some a.limit r.count some, more on, calls_on r a fetches h (roomy m r a most room) on)

  pub nothing_left : (m : ℕ) (r : Remainder) (fetches : List Fetch) → r.place + r.count ≤ length body → r.count ≤ m → Each (HasRoom m) fetches → r.count ≤ length fetches
      → (after sending_of body r fetches).count ≡ 0
  nothing_left m r [] h most none many = omega arith
  nothing_left m r (a ∷ fetches) h most (also room rooms) many =
      ap (λ (x : Remainder). (after sending_of body x fetches).count) (left_is r a h (roomy m r a most room))
      ∙ nothing_left m (rest_after r a.limit) fetches (omega (arith, Ways.rest_end r a.limit)) (omega arith) rooms (fewer (ℕ_discrete r.count 0))
    where
      fewer : Dec (r.count ≡ 0) → (rest_after r a.limit).count ≤ length fetches
      fewer (yes z) = omega arith
      fewer (no n) = omega (arith, Ways.part_some a.limit r.count (omega arith))

  pub calls_exactly : (L : ℕ) → 1 ≤ L → (k : ℕ) (r : Remainder) (fetches : List Fetch) → r.place + r.count ≤ length body → RoundsUp r.count L k → Each (Takes L) fetches → k ≤ length fetches
      → calls_until_done sending_of body r fetches ≡ k
  calls_exactly L some k r [] h u none many = absurd (omega (arith, up_some L u))
  calls_exactly L some k r (a ∷ fetches) h u (also (is, room) takes) many =
      go (dec_lt L r.count) (λ j more. calls_exactly L some j (rest_after r a.limit) fetches (omega (arith, Ways.rest_end r a.limit)) more takes)
    where
      fits : part_length a.limit r.count + 2 ≤ length a.buffer
      fits = omega (arith, Ways.part_limit a.limit r.count (omega arith))

      part_is : (n : ℕ) → n ≡ part_length L r.count → (rest_after r a.limit).count ≡ r.count - n
      part_is n e = ap (λ (k : ℕ). r.count - k) (ap (λ (k : ℕ). part_length k r.count) is ∙ sym e)

      go : Dec (L < r.count)
          → ((j : ℕ) → RoundsUp (rest_after r a.limit).count L j → j ≤ length fetches → calls_until_done sending_of body (rest_after r a.limit) fetches ≡ j)
          → calls_until_done sending_of body r (a ∷ fetches) ≡ k
      go (yes less) more =
          let rest_is = part_is L (Cases.part_cut L r.count (λ z. omega arith) less) in
          let next = up_more L some r.count k u less in
          let k_is : k ≡ 1 + next.0 = next.1 in
          let others = more next.0 (rw rest_is next.2) (omega arith) in
          calls_on r a fetches h fits (omega arith) ∙ ap (λ (n : ℕ). 1 + n) others ∙ sym k_is
      go (no n) more =
          let rest_is = part_is r.count (Cases.part_last L r.count (λ z. omega arith) (omega arith)) in
          calls_last r a fetches h fits (omega arith) ∙ sym (up_one L some r.count k u (omega arith))
