-- What the definitions come to, on bytes: a response taken apart and put together, and what a call shows that sent a part.
use Prim.Native.Nat.{ℕ, ◌+◌, ◌-◌, ◌*◌, ◌/◌, ◌%◌, ◌≤◌}
use mathlib.Core.Path.{◌≡◌, refl, ap, ap₂, sym, ◌∙◌}
use mathlib.Core.List.{List, [], ◌∷◌, ◌++◌}
use native.Mathlib.Omega.{arith}
use lib.ListN.{length, take, drop, length-append, length-drop, take-append-drop}
use lib.Seq.{take_at, drop_at, get_or-append-add, get_or-drop}
use Rattle.outcome.specs.Outcome.{Outcome, Gives}
use Rattle.outcome.proofs.Laws.{gives_same, r_gives}
use Rattle.octets.specs.Bytes.{byte, bytes2, laid}
use Rattle.octets.proofs.Laws.{laid_fits}
use Rattle.response_stated.specs.Words.{Remainder, Sent}
use Rattle.response_stated.specs.Responses.{response_of, read_response_of, response_body_of}
use Rattle.response_stated.specs.Parts.{part_length, left_status, rest_after, part_bytes, part_response, part_laid}
use Rattle.response_stated.specs.Terms.{sending_of, reading, sending, spelled, Sends}
use Rattle.response_stated.proofs.Cases
use Rattle.response_stated.proofs.Ways

-- ---- a response
pub pair_is : {A B : Type 0} (a c : A) (b d : B) → a ≡ c → b ≡ d → ◌≡◌ {A = A × B} (a, b) (c, d)
pair_is a c b d p q = λ i. (p i, q i)

-- bytes with room, laid over a buffer
pub laid_spelled : (body : List ℕ) (status : ℕ) (old : List ℕ) → length body + 2 ≤ length old
    → laid (response_of body status) old ≡ spelled body status ++ drop (length body + 2) old
laid_spelled body status old room =
    let long : length (response_of body status) ≡ length body + 2 = length-append body (bytes2 status) in
    laid_fits (response_of body status) old (omega arith) ∙ ap (λ (k : ℕ). response_of body status ++ drop k old) long

-- any two bytes or more are a body and two status bytes
two_bytes : (s : List ℕ) → length s ≡ 2 → s ≡ byte s 0 ∷ byte s 1 ∷ []
two_bytes [] e = absurd (omega arith)
two_bytes (a ∷ []) e = absurd (omega arith)
two_bytes (a ∷ b ∷ []) e = refl
two_bytes (a ∷ b ∷ c ∷ s) e = absurd (omega arith)

pub split : (bytes : List ℕ) → 2 ≤ length bytes
    → bytes ≡ response_body_of bytes ++ (byte bytes (length bytes - 2) ∷ byte bytes (length bytes - 2 + 1) ∷ [])
split bytes some =
    let n = length bytes - 2 in
    let tail = drop n bytes in
    let at : (i : ℕ) → byte tail i ≡ byte bytes (n + i) = λ i. get_or-drop n bytes i 0 in
    sym (take-append-drop n bytes)
    ∙ ap (λ (l : List ℕ). take n bytes ++ l)
    (two_bytes tail (length-drop n bytes ∙ omega arith) ∙ ap₂ (λ (a b : ℕ). a ∷ b ∷ []) (at 0 ∙ ap (byte bytes) (omega arith)) (at 1))

-- a body and two status bytes
module _ (body : List ℕ) (hi lo : ℕ) where
  pub long_two : length (body ++ (hi ∷ lo ∷ [])) ≡ length body + 2
  long_two = length-append body (hi ∷ lo ∷ [])

  body_length : length (body ++ (hi ∷ lo ∷ [])) - 2 ≡ length body
  body_length = omega (arith, long_two)

  pub cut_back : response_body_of (body ++ (hi ∷ lo ∷ [])) ≡ body
  cut_back = take_at body (hi ∷ lo ∷ []) _ (sym body_length)

  status_at : (n : ℕ) → n ≡ length body → byte (body ++ (hi ∷ lo ∷ [])) n * 256 + byte (body ++ (hi ∷ lo ∷ [])) (n + 1) ≡ hi * 256 + lo
  status_at n e =
      let first : byte (body ++ (hi ∷ lo ∷ [])) (length body + 0) ≡ hi = get_or-append-add body (hi ∷ lo ∷ []) 0 0 in
      let second : byte (body ++ (hi ∷ lo ∷ [])) (length body + 1) ≡ lo = get_or-append-add body (hi ∷ lo ∷ []) 1 0 in
      let here : n ≡ length body + 0 = omega arith in
      let next : n + 1 ≡ length body + 1 = omega arith in
      ap₂ (λ (a b : ℕ). a * 256 + b) (ap (byte (body ++ (hi ∷ lo ∷ []))) here ∙ first) (ap (byte (body ++ (hi ∷ lo ∷ []))) next ∙ second)

  pub read_back : read_response_of (body ++ (hi ∷ lo ∷ [])) ≡ Gives (reading (length body) (hi * 256 + lo))
  read_back =
      let bytes = body ++ (hi ∷ lo ∷ []) in
      let next : length bytes - 1 ≡ length bytes - 2 + 1 = omega (arith, long_two) in
      sym (Cases.read_given bytes _ (omega (arith, long_two)) refl)
      ∙ ap₂ (λ (n s : ℕ). Gives (reading n s)) body_length
      (ap (λ (k : ℕ). byte bytes (length bytes - 2) * 256 + byte bytes k) next ∙ status_at (length bytes - 2) body_length)

pub halves : (status : ℕ) → status / 256 * 256 + status % 256 ≡ status
halves status = omega arith

-- what stands at a buffer's front, taken out again
pub front_of : (body : List ℕ) (status : ℕ) (rest : List ℕ) → take (length body + 2) (spelled body status ++ rest) ≡ spelled body status
front_of body status rest = take_at (spelled body status) rest _ (long_two body _ _)

-- ---- a part that is sent
pub sends_given : (body : List ℕ) (r : Remainder) (limit : ℕ) (old : List ℕ) → r.place + r.count ≤ length body → part_length limit r.count + 2 ≤ length old
    → sending_of body r limit old
    ≡ (
      Gives (sending (part_length limit r.count + 2) (rest_after r limit)),
      part_response body r limit ++ drop (part_length limit r.count + 2) old,
    )
sends_given body r limit old within room =
    let given = Cases.next_given (length body) r limit (length old) within room in
    let long = Ways.part_long body r limit within in
    pair_is _ _ _ _ (sym given)
    (ap (λ (o : Outcome Sent). part_laid o (part_response body r limit) old) (sym given)
    ∙ laid_spelled (part_bytes body r limit) (left_status (rest_after r limit).count) old (omega (arith, long))
    ∙ ap (λ (k : ℕ). part_response body r limit ++ drop (k + 2) old) long)

-- two lists that are equal have equal fronts of one length, and what follows is equal
fronts : (p q a b : List ℕ) → length p ≡ length q → p ++ a ≡ q ++ b → (p ≡ q) × (a ≡ b)
fronts p q a b long e = (
  sym (take_at p a _ refl) ∙ ap (take (length p)) e ∙ take_at q b _ (sym long),
  sym (drop_at p a _ refl) ∙ ap (drop (length p)) e ∙ drop_at q b _ (sym long),
)

-- what a call that sent something shows
pub record Shown (body : List ℕ) (r : Remainder) (limit : ℕ) (old part : List ℕ) (status : ℕ) (left : Remainder) : Type 0 where
  pub within : r.place + r.count ≤ length body
  pub room : part_length limit r.count + 2 ≤ length old
  pub part_is : part ≡ part_bytes body r limit
  pub long : length part ≡ part_length limit r.count
  pub left_is : left ≡ rest_after r limit
  pub status_is : status ≡ left_status left.count

pub shown : (body : List ℕ) (r : Remainder) (limit : ℕ) (old part : List ℕ) (status : ℕ) (left : Remainder)
    → Sends (sending_of body r limit old) part status left → Shown body r limit old part status left
shown body r limit old part status left s = go (Ways.next_way (length body) r limit (length old)) s.says s.holds
  where
    go : {o : Outcome Sent} → Ways.NextWay (length body) r limit (length old) o → o ≡ Gives (sending (length part + 2) left)
        → part_laid o (part_response body r limit) old ≡ spelled part status ++ s.behind → Shown body r limit old part status left
    go (Ways.short_body h) e f = absurd (r_gives 2 _ e)
    go (Ways.short_buffer h g) e f = absurd (r_gives 2 _ e)
    go (Ways.given h g) e f =
        let n = part_length limit r.count in
        let same = gives_same _ _ e in
        let lengths : n + 2 ≡ length part + 2 = ap (λ (x : Sent). x.length) same in
        let left_is : rest_after r limit ≡ left = ap (λ (x : Sent). x.remainder) same in
        let told = left_status (rest_after r limit).count in
        let is_n = Ways.part_long body r limit h in
        let whole : spelled (part_bytes body r limit) told ++ drop (n + 2) old ≡ spelled part status ++ s.behind =
        ap (λ (k : ℕ). part_response body r limit ++ drop (k + 2) old) (sym is_n) ∙ sym (laid_spelled (part_bytes body r limit) told old (omega arith)) ∙ f in
        let as_long : length (spelled (part_bytes body r limit) told) ≡ length (spelled part status) =
        omega (arith, long_two (part_bytes body r limit) (told / 256) (told % 256), long_two part (status / 256) (status % 256)) in
        let both = fronts (spelled (part_bytes body r limit) told) (spelled part status) _ _ as_long whole in
        let parts = fronts (part_bytes body r limit) part (bytes2 told) (bytes2 status) (omega arith) both.0 in
        let high : told / 256 ≡ status / 256 = ap (λ (l : List ℕ). byte l 0) parts.1 in
        let low : told % 256 ≡ status % 256 = ap (λ (l : List ℕ). byte l 1) parts.1 in
        record {
          within = h;
          room = g;
          part_is = sym parts.0;
          long = omega arith;
          left_is = sym left_is;
          status_is = sym (halves status) ∙ ap₂ (λ (a b : ℕ). a * 256 + b) (sym high) (sym low) ∙ halves told ∙ ap (λ (x : Remainder). left_status x.count) left_is;
        }
