-- The definitions of responses and parts, case by case, as the code meets them: the answer, from the facts that the tests showed.
-- The only file that opens these definitions; it mentions no function.
use Prim.Native.Nat.{ℕ, ◌+◌, ◌-◌, ◌*◌, ◌<◌, ◌≤◌}
use mathlib.Core.Path.{◌≡◌, refl, ap, ap₂, sym, ◌∙◌}
use mathlib.Core.List.{List, ◌++◌}
use native.Mathlib.Omega.{arith}
use native.Mathlib.Decide.{dec_lt}
use borrow.Author.Tests.{lt-ltb, le-ltb, le-leb, lt-leb, eq-eqb, ne_eqb}
use lib.Dec.{eqb}
use lib.ListN.{length, take, drop}
use lib.Seq.{length-take-le}
use Rattle.outcome.specs.Notation.{when◌then◌else◌}
use Rattle.outcome.specs.Outcome.{Outcome, R, Gives, refusal_no}
use Rattle.outcome.specs.declared.Refusal.{Refusal}
use Rattle.outcome.proofs.Laws.{gives_same, r_gives}
use Rattle.octets.specs.Bytes.{byte, bytes2, laid, part_of}
use Rattle.octets.proofs.Laws.{laid_then, part_within, length_part}
use Rattle.apdu_stated.specs.declared.Case.TheVariants.{Instruction, Le1, Lc1Data, Lc1DataLe1, Lc3Data, Lc3DataLe2, Le3}
use Rattle.response_stated.specs.Words.{Apdu, Says, says_of, Remainder, WroteResponse, rest, Sent, response_written}
use Rattle.response_stated.specs.Responses.{response_of, write_response_of, response_laid, read_response_of, response_body_of}
use Rattle.response_stated.specs.Parts.{limit_of, part_length, left_status, rest_after, next_part_of, part_bytes, part_response, part_laid, response_room_of}
use Rattle.std.specs.Prelude.{Ok, Err}

refusal_same : (a b : ℕ) → ◌≡◌ {A = Outcome ℕ} (R a) (R b) → a ≡ b
refusal_same a b e = cc

-- ---- how much a frame takes
pub short_absent : (le : ℕ) → le ≡ 0 → 256 ≡ (when eqb le 0 then 256 else le)
short_absent le z = rw z

pub short_given : (le : ℕ) → (le ≡ 0 → ⊥) → le ≡ (when eqb le 0 then 256 else le)
short_given le n = rw (ne_eqb le 0 n)

module _ (says : Apdu) where
  module _ (r : ℕ) (is : r ≡ (when eqb says.le 0 then 256 else says.le)) where
    pub limit_1 : says.shape ≡ Instruction → r ≡ limit_of (says_of says)
    unfolding limit_of
    limit_1 s = is ∙ rw s

    pub limit_2 : says.shape ≡ Le1 → r ≡ limit_of (says_of says)
    unfolding limit_of
    limit_2 s = is ∙ rw s

    pub limit_3 : says.shape ≡ Lc1Data → r ≡ limit_of (says_of says)
    unfolding limit_of
    limit_3 s = is ∙ rw s

    pub limit_4 : says.shape ≡ Lc1DataLe1 → r ≡ limit_of (says_of says)
    unfolding limit_of
    limit_4 s = is ∙ rw s

  pub limit_5 : says.shape ≡ Lc3Data → 0 ≡ limit_of (says_of says)
  unfolding limit_of
  limit_5 s = rw s

  pub limit_7 : says.shape ≡ Lc3DataLe2 → 0 ≡ limit_of (says_of says)
  unfolding limit_of
  limit_7 s = rw s

  pub limit_8 : says.shape ≡ Le3 → 0 ≡ limit_of (says_of says)
  unfolding limit_of
  limit_8 s = rw s

-- the same over what a frame says
module _ (says : Says) where
  pub limit_said : says.shape ≤ 4 → 1 ≤ says.le → limit_of says ≡ says.le
  unfolding limit_of
  limit_said h g = rw (le-leb says.shape 4 h, ne_eqb says.le 0 (λ z. omega arith))

  pub limit_absent : says.shape ≤ 4 → says.le ≡ 0 → limit_of says ≡ 256
  unfolding limit_of
  limit_absent h z = rw (le-leb says.shape 4 h, eq-eqb says.le 0 z)

  pub limit_extended : 5 ≤ says.shape → limit_of says ≡ 0
  unfolding limit_of
  limit_extended h = rw (lt-leb says.shape 4 (omega arith))

-- ---- a response
module _ (body : List ℕ) (room : ℕ) where
  pub write_under_two : room < 2 → R 2 ≡ write_response_of body room
  unfolding write_response_of
  write_under_two h = rw (lt-ltb room (length body + 2) (omega arith))

  pub write_no_room : 2 ≤ room → room - 2 < length body → R 2 ≡ write_response_of body room
  unfolding write_response_of
  write_no_room h g = rw (lt-ltb room (length body + 2) (omega arith))

  pub write_room : 2 ≤ room → length body ≤ room - 2 → Gives (length body + 2) ≡ write_response_of body room
  unfolding write_response_of
  write_room h g = rw (le-ltb room (length body + 2) (omega arith))

  pub write_short : room < length body + 2 → R 2 ≡ write_response_of body room
  unfolding write_response_of
  write_short h = rw (lt-ltb room (length body + 2) h)

-- answer and buffer
module _ (body : List ℕ) (status : ℕ) (old : List ℕ) where
  pub write_refused : R 2 ≡ write_response_of body (length old)
      → (R 2 ≡ write_response_of body (length old)) × (old ≡ response_laid (write_response_of body (length old)) (response_of body status) old)
  write_refused e = (e, rw (← e))

  pub write_laid : (xs ys : List ℕ) → 2 ≤ length old → length body ≤ length old - 2 → xs ≡ laid body old
      → ys ≡ laid (bytes2 status) (take (length xs - length body) (drop (length body) xs))
      → take (length body) xs ++ (ys ++ drop (length xs - length body) (drop (length body) xs))
      ≡ response_laid (write_response_of body (length old)) (response_of body status) old
  write_laid xs ys h g is_xs is_ys =
      laid_then body (bytes2 status) old xs ys (length body) refl is_xs is_ys
      ∙ ap (λ (o : Outcome ℕ). response_laid o (response_of body status) old) (write_room body (length old) h g)

module _ (response : List ℕ) where
  pub read_under : length response < 2 → R 2 ≡ read_response_of response
  unfolding read_response_of
  read_under h = rw (lt-ltb (length response) 2 h)

  pub read_given : (status : ℕ) → 2 ≤ length response → status ≡ byte response (length response - 2) * 256 + byte response (length response - 1)
      → Gives (record { length = length response - 2; status = status }) ≡ read_response_of response
  unfolding read_response_of
  read_given status h e =
      let next : length response - 1 ≡ length response - 2 + 1 = omega arith in
      rw (le-ltb (length response) 2 h, e, next)

-- where there are not two bytes there is no body
pub no_body : (response : List ℕ) → length response < 2 → take 0 response ≡ response_body_of response
no_body response h = let none_left : 0 ≡ length response - 2 = omega arith in ap (λ (k : ℕ). take k response) none_left

-- the body is within the response
pub body_long : (response : List ℕ) → length response - 2 ≡ length (response_body_of response)
body_long response = sym (length-take-le (length response - 2) response (omega arith))

-- ---- a part
module _ (limit count : ℕ) where
  pub part_whole : limit ≡ 0 → count ≡ part_length limit count
  unfolding part_length
  part_whole z = rw (eq-eqb limit 0 z)

  pub part_cut : (limit ≡ 0 → ⊥) → limit < count → limit ≡ part_length limit count
  unfolding part_length
  part_cut n h = rw (ne_eqb limit 0 n, lt-ltb limit count h)

  pub part_last : (limit ≡ 0 → ⊥) → count ≤ limit → count ≡ part_length limit count
  unfolding part_length
  part_last n h = rw (ne_eqb limit 0 n, le-ltb limit count h)

module _ (left : ℕ) where
  pub left_none : left ≡ 0 → 0x9000 ≡ left_status left
  unfolding left_status
  left_none z = rw (eq-eqb left 0 z)

  pub left_some : (left ≡ 0 → ⊥) → left < 256 → 0x6100 + left ≡ left_status left
  unfolding left_status
  left_some n h = rw (ne_eqb left 0 n, lt-ltb left 256 h)

  pub left_many : (left ≡ 0 → ⊥) → 256 ≤ left → 0x6100 ≡ left_status left
  unfolding left_status
  left_many n h = rw (ne_eqb left 0 n, le-ltb left 256 h)

-- ---- the room for a part and its status
module _ (limit longest n : ℕ) (is_n : n ≡ part_length limit longest) where
  pub room_unsaid : 0xfffffffffffffffd < n → R 2 ≡ response_room_of limit longest
  unfolding response_room_of
  room_unsaid h = rw (le-ltb (part_length limit longest) 0xfffffffffffffffe (omega arith))

  pub room_said : n ≤ 0xfffffffffffffffd → Gives (n + 2) ≡ response_room_of limit longest
  unfolding response_room_of
  room_said h = rw (lt-ltb (part_length limit longest) 0xfffffffffffffffe (omega arith), is_n)

-- ---- the next part: the body's test, in two steps that cannot wrap
module _ (body_room : ℕ) (r : Remainder) (limit room : ℕ) where
  pub next_short_count : body_room < r.count → R 2 ≡ next_part_of body_room r limit room
  unfolding next_part_of
  next_short_count h = rw (lt-ltb body_room (r.place + r.count) (omega arith))

  pub next_short_place : r.count ≤ body_room → body_room - r.count < r.place → R 2 ≡ next_part_of body_room r limit room
  unfolding next_part_of
  next_short_place h g = rw (lt-ltb body_room (r.place + r.count) (omega arith))

  pub next_short_body : body_room < r.place + r.count → R 2 ≡ next_part_of body_room r limit room
  unfolding next_part_of
  next_short_body h = rw (lt-ltb body_room (r.place + r.count) h)

  pub next_no_room : r.place + r.count ≤ body_room → room < part_length limit r.count + 2 → R 2 ≡ next_part_of body_room r limit room
  unfolding next_part_of
  next_no_room h g = rw (le-ltb body_room (r.place + r.count) h, lt-ltb room (part_length limit r.count + 2) g)

  pub next_given : r.place + r.count ≤ body_room → part_length limit r.count + 2 ≤ room
      → Gives (record { length = part_length limit r.count + 2; remainder = rest_after r limit }) ≡ next_part_of body_room r limit room
  unfolding next_part_of
  next_given h g = rw (le-ltb body_room (r.place + r.count) h, le-ltb room (part_length limit r.count + 2) g)

module _ (body : List ℕ) (r : Remainder) (limit : ℕ) (old : List ℕ) where
  keeps : R 2 ≡ next_part_of (length body) r limit (length old) → old ≡ part_laid (next_part_of (length body) r limit (length old)) (part_response body r limit) old
  keeps e = rw (← e)

  pub kept_short_count : length body < r.count → old ≡ part_laid (next_part_of (length body) r limit (length old)) (part_response body r limit) old
  kept_short_count h = keeps (next_short_count (length body) r limit (length old) h)

  pub kept_short_place : r.count ≤ length body → length body - r.count < r.place
      → old ≡ part_laid (next_part_of (length body) r limit (length old)) (part_response body r limit) old
  kept_short_place h g = keeps (next_short_place (length body) r limit (length old) h g)

-- the part's response is written by the writer of responses
module _ (body old : List ℕ) (r : Remainder) (limit n : ℕ) (enough : r.count ≤ length body) (within : r.place ≤ length body - r.count) where
  module _ (is_n : n ≡ part_length limit r.count) (most : n ≤ r.count) (part : List ℕ) (is_part : part ≡ part_of body r.place (r.place + n)) where
    part_is : part ≡ part_bytes body r limit
    part_is =
        let cut : r.place + n - r.place ≡ n = omega arith in
        is_part
        ∙ sym (part_within body r.place (r.place + n) (omega arith) (omega arith))
        ∙ ap (λ (k : ℕ). take k (drop r.place body)) (cut ∙ is_n)

    part_long : length part ≡ part_length limit r.count
    part_long = ap length part_is ∙ length_part r.place (part_length limit r.count) body (omega arith)

    module _ (w : WroteResponse) (says : response_written w ≡ write_response_of part (length old)) where
      -- the writer was refused exactly where the buffer is too short
      refused_short : (why : Refusal) → w ≡ Err why → (length old < length part + 2) × (refusal_no why ≡ 2)
      refused_short why e = go (dec_lt (length old) (length part + 2))
        where
          go : Dec (length old < length part + 2) → (length old < length part + 2) × (refusal_no why ≡ 2)
          go (yes h) = (h, refusal_same _ _ (ap response_written (sym e) ∙ says ∙ sym (write_short part (length old) h)))
          go (no h) = absurd (r_gives (refusal_no why) _ (ap response_written (sym e) ∙ says ∙ sym (write_room part (length old) (omega arith) (omega arith))))

      written_long : (m : ℕ) → w ≡ Ok m → (length part + 2 ≤ length old) × (m ≡ length part + 2)
      written_long m e = go (dec_lt (length old) (length part + 2))
        where
          go : Dec (length old < length part + 2) → (length part + 2 ≤ length old) × (m ≡ length part + 2)
          go (yes h) = absurd (r_gives 2 m (write_short part (length old) h ∙ sym says ∙ ap response_written e))
          go (no h) = (omega arith, gives_same _ _ (ap response_written (sym e) ∙ says ∙ sym (write_room part (length old) (omega arith) (omega arith))))

      pub next_refused : (why : Refusal) → w ≡ Err why → R (refusal_no why) ≡ next_part_of (length body) r limit (length old)
      next_refused why e =
          let short = refused_short why e in
          ap (λ (k : ℕ). R k) short.1 ∙ next_no_room (length body) r limit (length old) (omega arith) (omega (arith, part_long))

      pub next_kept : (why : Refusal) (status : ℕ) (new : List ℕ) → w ≡ Err why
          → new ≡ response_laid (write_response_of part (length old)) (response_of part status) old
          → new ≡ part_laid (next_part_of (length body) r limit (length old)) (part_response body r limit) old
      next_kept why status new e is =
          is ∙ ap (λ (o : Outcome ℕ). response_laid o (response_of part status) old) (sym says ∙ ap response_written e)
          ∙ ap (λ (o : Outcome Sent). part_laid o (part_response body r limit) old) (next_refused why e)

      pub next_part : (m : ℕ) → w ≡ Ok m
          → Gives (record { length = m; remainder = rest (r.place + n) (r.count - n) }) ≡ next_part_of (length body) r limit (length old)
      next_part m e =
          let long = written_long m e in
          ap₂ (λ (l k : ℕ). Gives (record { length = l; remainder = rest (r.place + k) (r.count - k) })) (long.1 ∙ ap (λ (k : ℕ). k + 2) part_long) is_n
          ∙ next_given (length body) r limit (length old) (omega arith) (omega (arith, part_long))

      pub next_laid : (m status : ℕ) (new : List ℕ) → w ≡ Ok m → status ≡ left_status (r.count - n)
          → new ≡ response_laid (write_response_of part (length old)) (response_of part status) old
          → new ≡ part_laid (next_part_of (length body) r limit (length old)) (part_response body r limit) old
      next_laid m status new e is_status is =
          is ∙ ap (λ (o : Outcome ℕ). response_laid o (response_of part status) old) (sym says ∙ ap response_written e)
          ∙ ap₂ (λ (p : List ℕ) (s : ℕ). laid (response_of p s) old) part_is (is_status ∙ ap (λ (k : ℕ). left_status (r.count - k)) is_n)
          ∙ ap (λ (o : Outcome Sent). part_laid o (part_response body r limit) old) (next_part m e)
