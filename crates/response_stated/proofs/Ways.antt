-- The ways through the next part, with the plain facts that each shows; how long a part is, what it leaves, that the two join, and what room it takes.
use Prim.Native.Nat.{ℕ, ◌+◌, ◌<◌, ◌≤◌}
use mathlib.Core.Path.{◌≡◌, refl, ap, sym, subst, ◌∙◌}
use mathlib.Core.List.{List, ◌++◌}
use native.Mathlib.Omega.{arith}
use native.Mathlib.Decide.{dec_lt, ℕ_discrete}
use lib.ListN.{length, take, drop}
use Rattle.outcome.specs.Outcome.{Outcome, R, Gives}
use Rattle.outcome.proofs.Laws.{gives_same, r_gives}
use Rattle.octets.proofs.Laws.{parts_join, length_part}
use Rattle.response_stated.specs.Words.{Remainder, Sent}
use Rattle.response_stated.specs.Parts.{part_length, rest_after, next_part_of, part_bytes, response_room_of}
use Rattle.response_stated.specs.Fetching.{remaining}
use Rattle.response_stated.proofs.Cases

-- ---- a part's length
pub data PartWay (limit count : ℕ) : ℕ → Type 0 where
  whole : limit ≡ 0 → PartWay limit count count
  cut : 1 ≤ limit → limit < count → PartWay limit count limit
  last : 1 ≤ limit → count ≤ limit → PartWay limit count count

module _ (limit count : ℕ) where
  pub part_way : PartWay limit count (part_length limit count)
  part_way = go (ℕ_discrete limit 0) (dec_lt limit count)
    where
      go : Dec (limit ≡ 0) → Dec (limit < count) → PartWay limit count (part_length limit count)
      go (yes z) d = subst (PartWay limit count) (Cases.part_whole limit count z) (whole z)
      go (no n) (yes h) = subst (PartWay limit count) (Cases.part_cut limit count n h) (cut (omega arith) h)
      go (no n) (no h) = subst (PartWay limit count) (Cases.part_last limit count n (omega arith)) (last (omega arith) (omega arith))

  pub part_most : part_length limit count ≤ count
  part_most = go part_way
    where
      go : {n : ℕ} → PartWay limit count n → n ≤ count
      go (whole z) = omega arith
      go (cut some h) = omega arith
      go (last some h) = omega arith

  pub part_limit : 1 ≤ limit → part_length limit count ≤ limit
  part_limit limited = go part_way
    where
      go : {n : ℕ} → PartWay limit count n → n ≤ limit
      go (whole z) = omega arith
      go (cut some h) = omega arith
      go (last some h) = omega arith

  -- where something remains, something goes out
  pub part_some : 1 ≤ count → 1 ≤ part_length limit count
  part_some remains = go part_way
    where
      go : {n : ℕ} → PartWay limit count n → 1 ≤ n
      go (whole z) = omega arith
      go (cut some h) = omega arith
      go (last some h) = omega arith

-- of more at least as much goes out
pub part_monotone : (limit n k : ℕ) → n ≤ k → part_length limit n ≤ part_length limit k
part_monotone limit n k less = go (part_way limit k)
  where
    go : {m : ℕ} → PartWay limit k m → part_length limit n ≤ m
    go (whole z) = omega (arith, part_most limit n)
    go (cut some h) = part_limit limit n some
    go (last some h) = omega (arith, part_most limit n)

-- a room that is said is the part's and the status's
pub room_holds : (limit longest m : ℕ) → response_room_of limit longest ≡ Gives m → m ≡ part_length limit longest + 2
room_holds limit longest m e = go (dec_lt 0xfffffffffffffffd (part_length limit longest))
  where
    go : Dec (0xfffffffffffffffd < part_length limit longest) → m ≡ part_length limit longest + 2
    go (yes h) = absurd (r_gives 2 m (Cases.room_unsaid limit longest _ refl h ∙ e))
    go (no h) = sym (gives_same _ _ (Cases.room_said limit longest _ refl (omega arith) ∙ e))

-- ---- a part and what it leaves
module _ (r : Remainder) (limit : ℕ) where
  pub rest_end : (rest_after r limit).place + (rest_after r limit).count ≡ r.place + r.count
  rest_end = omega (arith, part_most limit r.count)

  pub rest_less : (rest_after r limit).count ≤ r.count
  rest_less = omega arith

  pub part_and_rest : part_length limit r.count + (rest_after r limit).count ≡ r.count
  part_and_rest = omega (arith, part_most limit r.count)

module _ (body : List ℕ) (r : Remainder) (limit : ℕ) where
  -- a part and what remains after it are what remained before
  pub part_joins : part_bytes body r limit ++ remaining body (rest_after r limit) ≡ remaining body r
  part_joins =
      parts_join r.place (part_length limit r.count) (rest_after r limit).count body
      ∙ ap (λ (k : ℕ). take k (drop r.place body)) (part_and_rest r limit)

  pub part_long : r.place + r.count ≤ length body → length (part_bytes body r limit) ≡ part_length limit r.count
  part_long within = length_part r.place (part_length limit r.count) body (omega (arith, part_most limit r.count))

-- ---- the next part
pub data NextWay (body_room : ℕ) (r : Remainder) (limit room : ℕ) : Outcome Sent → Type 0 where
  short_body : body_room < r.place + r.count → NextWay body_room r limit room (R 2)
  short_buffer : r.place + r.count ≤ body_room → room < part_length limit r.count + 2 → NextWay body_room r limit room (R 2)
  given : r.place + r.count ≤ body_room → part_length limit r.count + 2 ≤ room
      → NextWay body_room r limit room (Gives (record { length = part_length limit r.count + 2; remainder = rest_after r limit }))

module _ (body_room : ℕ) (r : Remainder) (limit room : ℕ) where
  pub next_way : NextWay body_room r limit room (next_part_of body_room r limit room)
  next_way = go (dec_lt body_room (r.place + r.count)) (dec_lt room (part_length limit r.count + 2))
    where
      go : Dec (body_room < r.place + r.count) → Dec (room < part_length limit r.count + 2) → NextWay body_room r limit room (next_part_of body_room r limit room)
      go (yes h) d = subst (NextWay body_room r limit room) (Cases.next_short_body body_room r limit room h) (short_body h)
      go (no h) (yes g) = subst (NextWay body_room r limit room) (Cases.next_no_room body_room r limit room (omega arith) g) (short_buffer (omega arith) g)
      go (no h) (no g) = subst (NextWay body_room r limit room) (Cases.next_given body_room r limit room (omega arith) (omega arith)) (given (omega arith) (omega arith))
