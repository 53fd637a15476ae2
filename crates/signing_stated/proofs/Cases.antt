-- A law for each `return`, in the form of its need, with the facts as the code has them. It mentions no function.
use Prim.Native.Nat.{ℕ, ◌-◌, ◌≤◌, ◌<◌, ◌+◌, suc}
use mathlib.Core.Bool.{Bool, true, false, not, and-false}
use mathlib.Core.Path.{◌≡◌, sym, ap, ◌∙◌, refl}
use mathlib.Core.List.{List, [], ◌∷◌, ◌++◌, append_assoc, append-nil}
use native.Mathlib.Omega.{arith}
use borrow.Author.Tests.{eq-eqb, ne_eqb, le-leb, lt-leb, not-true, not-false, leb-true, leb-false}
use lib.Dec.{eqb, leb}
use lib.ListN.{length, take, drop, replicate, length-append, length-replicate, drop_of_length-le}
use lib.Seq.{drop-cons}
use Rattle.octets.specs.Bytes.{byte, all_zero, laid, bytes4}
use Rattle.octets.proofs.Laws.{leb_same, tail_is}
use Rattle.signing_stated.specs.Orders.{Head, Order, head_of, order_with, Kind, Register, Authenticate, is_register_layout, is_authenticate_layout, is_layout, is_of_layout, to_sign, certificate_length, block, blank_order, register_order_of, authenticate_order_of, register_fields_of, authenticate_fields_of}
use Rattle.octets.proofs.Laws.{laid_fits, laid_whole}
use Rattle.signing_stated.specs.Layouts.{RegisterFields, AuthenticateFields, register_to_sign, authenticate_to_sign, presence_byte, public_key, register_body, authenticate_body}
use Rattle.signing_stated.proofs.Fit.{register_order_fit, authenticate_order_fit}
use Rattle.signing_stated.proofs.Shapes.{register_shaped}
use Rattle.signing_stated.specs.Promises.{Finishes}
use Rattle.signing_stated.specs.Terms.{bytes_at, RegisterLengths, AuthenticateLengths}
use Rattle.signing_stated.proofs.Ways.{comes_to_r7, comes_to_r4, comes_to_r2, comes_to_6f00, comes_to_r3, comes_to_body}
use Rattle.signing_stated.specs.Finishing.{register_room, authenticate_room, room_of, room_needed, CountsHandle, body_of, Finishing, Finished, Refused, Status, Ok, Err, finish_of, finished_of, length_of, reply_of}
use Rattle.octets.proofs.Laws.{length_part, parts_join}
use Rattle.outcome.specs.Outcome.{Outcome, R, SW, Gives}
use Rattle.outcome.specs.declared.ApduStatusCode.TheVariants.{InternalException}
use Rattle.outcome.specs.declared.Refusal.TheVariants.{R2, R3, R4, R7}

-- ---- the layout tests
module _ (n : ℕ) (b : List ℕ) where
  pub too_few : n < 130 → false ≡ is_register_layout n b
  unfolding is_register_layout
  too_few h = rw (lt-leb 130 n h)

  module _ (few : 130 ≤ n) where
    pub too_many : 385 < n → false ≡ is_register_layout n b
    unfolding is_register_layout
    too_many h = rw (le-leb 130 n few, lt-leb n 385 h)

    module _ (many : n ≤ 385) where
      pub other_first : (byte b 0 ≡ 0x00 → ⊥) → false ≡ is_register_layout n b
      unfolding is_register_layout
      other_first h = rw (le-leb 130 n few, le-leb n 385 many, ne_eqb (byte b 0) 0x00 h)

      module _ (first : byte b 0 ≡ 0x00) where
        pub other_marker : (byte b (n - 65) ≡ 0x04 → ⊥) → false ≡ is_register_layout n b
        unfolding is_register_layout
        other_marker h = rw (le-leb 130 n few, le-leb n 385 many, eq-eqb (byte b 0) 0x00 first, ne_eqb (byte b (n - 65)) 0x04 h)

        pub register_tail : (r : Bool) → byte b (n - 65) ≡ 0x04 → r ≡ all_zero (take (length b - n) (drop n b)) → r ≡ is_register_layout n b
        unfolding is_register_layout
        register_tail r h e =
            e ∙ rw (le-leb 130 n few, le-leb n 385 many, eq-eqb (byte b 0) 0x00 first, eq-eqb (byte b (n - 65)) 0x04 h, tail_is b n)

module _ (n c : ℕ) (b : List ℕ) where
  pub other_length : (n ≡ 69 → ⊥) → false ≡ is_authenticate_layout n c b
  unfolding is_authenticate_layout
  other_length h = rw (ne_eqb n 69 h)

  module _ (long : n ≡ 69) where
    pub other_presence : 1 < byte b 32 → false ≡ is_authenticate_layout n c b
    unfolding is_authenticate_layout
    other_presence h = rw (eq-eqb n 69 long, lt-leb (byte b 32) 1 h)

    module _ (present : byte b 32 ≤ 1) (z : Bool) (is_z : z ≡ all_zero (take (length b - 69) (drop 69 b))) where
      zeros : z ≡ all_zero (drop 69 b)
      zeros = is_z ∙ ap all_zero (tail_is b 69)

      pub authenticate_tail : not z ≡ true → false ≡ is_authenticate_layout n c b
      unfolding is_authenticate_layout
      authenticate_tail h = rw (eq-eqb n 69 long, le-leb (byte b 32) 1 present, sym zeros, not-true z h)

      pub authenticate_certificate : not z ≡ false → eqb c 0 ≡ is_authenticate_layout n c b
      unfolding is_authenticate_layout
      authenticate_certificate h = rw (eq-eqb n 69 long, le-leb (byte b 32) 1 present, sym zeros, not-false z h)

module _ (o : Order) (r : Bool) where
  pub register_judged : o.kind ≡ Register → r ≡ is_register_layout (to_sign o) o.bytes → r ≡ is_of_layout o
  register_judged k e = e ∙ ap (λ (kind : Kind). is_layout kind o) (sym k)

  pub authenticate_judged : o.kind ≡ Authenticate → r ≡ is_authenticate_layout (to_sign o) (certificate_length o) o.bytes → r ≡ is_of_layout o
  authenticate_judged k e = e ∙ ap (λ (kind : Kind). is_layout kind o) (sym k)

-- ---- orders: blank where a part does not fit, else the order whose block the fields' writers filled
pub four : (a b c d : List ℕ) → a ++ b ++ c ++ d ≡ a ++ (b ++ (c ++ d))
four a b c d = simp append_assoc

pub five : (a b c d e : List ℕ) → a ++ b ++ c ++ d ++ e ≡ a ++ (b ++ (c ++ (d ++ e)))
five a b c d e = simp append_assoc

-- the fields as their writers have them: each before all that follow
pub register_grouped : (f : RegisterFields)
    → register_to_sign f ≡ 0x00 ∷ [] ++ (f.application ++ (f.challenge ++ (f.handle ++ public_key f.x f.y)))
register_grouped f = five (0x00 ∷ []) f.application f.challenge f.handle (public_key f.x f.y)

pub authenticate_grouped : (f : AuthenticateFields)
    → authenticate_to_sign f ≡ f.application ++ (f.presence ∷ [] ++ (f.counter ++ f.challenge))
authenticate_grouped f = four f.application (f.presence ∷ []) f.counter f.challenge

-- a buffer of just the length is filled
filled : (s : List ℕ) (n : ℕ) → length s ≡ n → laid s (replicate n 0) ≡ s
filled s n e =
    let z : List ℕ = replicate n 0 in
    let long : length z ≡ n = length-replicate {A = ℕ} n 0 in
    laid_fits s z (omega arith) ∙ rw (drop_of_length-le z {i = length s} (omega arith), append-nil)

module _ (f : RegisterFields) (c : ℕ) (r : Order) (is_blank : r ≡ blank_order) where
  pub register_application_unfit : (length f.application ≡ 32 → ⊥) → r ≡ register_order_of f c
  unfolding register_order_of
  register_application_unfit h = is_blank ∙ rw (ne_eqb (length f.application) 32 h)

  pub register_challenge_unfit : length f.application ≡ 32 → (length f.challenge ≡ 32 → ⊥) → r ≡ register_order_of f c
  unfolding register_order_of
  register_challenge_unfit a h = is_blank ∙ rw (eq-eqb (length f.application) 32 a, ne_eqb (length f.challenge) 32 h)

  pub register_handle_unfit : length f.application ≡ 32 → length f.challenge ≡ 32 → 255 < length f.handle → r ≡ register_order_of f c
  unfolding register_order_of
  register_handle_unfit a b h =
      is_blank
      ∙ rw (eq-eqb (length f.application) 32 a, eq-eqb (length f.challenge) 32 b, lt-leb (length f.handle) 255 h)

module _ (f : AuthenticateFields) (r : Order) (is_blank : r ≡ blank_order) where
  pub authenticate_application_unfit : (length f.application ≡ 32 → ⊥) → r ≡ authenticate_order_of f
  unfolding authenticate_order_of
  authenticate_application_unfit h = is_blank ∙ rw (ne_eqb (length f.application) 32 h)

  pub authenticate_challenge_unfit : (length f.challenge ≡ 32 → ⊥) → r ≡ authenticate_order_of f
  unfolding authenticate_order_of
  authenticate_challenge_unfit h = is_blank ∙ rw (ne_eqb (length f.challenge) 32 h, and-false)

-- the head of a blank order over a block of zeros
pub blank_whole : (h : Head) → h ≡ head_of blank_order → order_with h (replicate 385 0) ≡ blank_order
unfolding blank_order block
blank_whole h e = ap (λ (k : Head). order_with k (replicate 385 0)) e

module _ (a d h x y : List ℕ) (c : ℕ) (key bytes : List ℕ) where
  pub register_made : length a ≡ 32 → length d ≡ 32 → length h ≤ 255 → length x ≡ 32 → length y ≡ 32
      → key ≡ laid (0x04 ∷ [] ++ (x ++ y)) (replicate 65 0)
      → bytes ≡ laid (0x00 ∷ [] ++ (a ++ (d ++ (h ++ key)))) (replicate 385 0)
      → ◌≡◌ {A = Order} (record { kind = Register; to_sign = 130 + length h; certificate_length = c; bytes = bytes })
      (register_order_of (record { application = a; challenge = d; handle = h; x = x; y = y }) c)
  unfolding block
  register_made la ld lh lx ly is_key is_bytes =
      let f : RegisterFields = record { application = a; challenge = d; handle = h; x = x; y = y } in
      let l : RegisterLengths f = record { application = la; challenge = ld; handle = lh; x = lx; y = ly } in
      let whole : key ≡ public_key x y = is_key ∙ filled (public_key x y) 65 (omega (arith, length-append x y)) in
      let same : bytes ≡ block (register_to_sign f) =
      is_bytes ∙ ap (λ (k : List ℕ). block (0x00 ∷ [] ++ (a ++ (d ++ (h ++ k))))) whole ∙ ap block (sym (register_grouped f)) in
      rw (register_order_fit f c l, same)

presence_small : (p : Bool) → presence_byte p ≤ 1
presence_small true = omega arith
presence_small false = omega arith

module _ (a d : List ℕ) (p : Bool) (n : ℕ) (presence : ℕ) (count bytes : List ℕ) where
  pub authenticate_made : length a ≡ 32 → length d ≡ 32
      → presence ≡ presence_byte p
      → count ≡ laid (bytes4 n) (replicate 4 0)
      → bytes ≡ laid (a ++ (presence ∷ [] ++ (count ++ d))) (replicate 385 0)
      → ◌≡◌ {A = Order} (record { kind = Authenticate; to_sign = 69; certificate_length = 0; bytes = bytes })
      (authenticate_order_of (record { application = a; presence = presence_byte p; counter = bytes4 n; challenge = d }))
  unfolding block
  authenticate_made la ld is_presence is_count is_bytes =
      let f : AuthenticateFields = record { application = a; presence = presence_byte p; counter = bytes4 n; challenge = d } in
      let l : AuthenticateLengths f = record { application = la; presence = presence_small p; counter = refl; challenge = ld } in
      rw (authenticate_order_fit f l, is_bytes, is_count, is_presence, authenticate_grouped f)

-- ---- room: the test by subtraction is the test on the sum
module _ (h c room : ℕ) where
  pub no_room : room < 139 → false ≡ leb (register_room h c) room
  no_room less = sym (lt-leb (register_room h c) room (omega arith))

  pub no_handle_room : 139 ≤ room → room - 139 < h → false ≡ leb (register_room h c) room
  no_handle_room enough less = sym (lt-leb (register_room h c) room (omega arith))

  pub certificate_room : 139 ≤ room → h ≤ room - 139 → leb c (room - 139 - h) ≡ leb (register_room h c) room
  certificate_room enough left = leb_same c (room - 139 - h) (register_room h c) room (λ holds. omega arith) (λ fails. omega arith)

module _ (h : Head) (room : ℕ) (r : Bool) where
  pub register_room_lem : h.kind ≡ Register → r ≡ leb (register_room (h.to_sign - 130) h.certificate_length) room → r ≡ leb (room_of h.kind h) room
  register_room_lem k e = e ∙ ap (λ (kind : Kind). leb (room_of kind h) room) (sym k)

  pub authenticate_room_lem : h.kind ≡ Authenticate → r ≡ leb authenticate_room room → r ≡ leb (room_of h.kind h) room
  authenticate_room_lem k e = e ∙ ap (λ (kind : Kind). leb (room_of kind h) room) (sym k)

-- the handle's length, by subtraction, of an order of its layout
pub handle_counted : (kind : Kind) (n : ℕ) → kind ≡ Register → CountsHandle kind n → 130 ≤ n
handle_counted kind n k counts = counts k

module _ (h : Head) (b : List ℕ) where
  pub counts_handle : (ok : Bool) → ok ≡ is_of_layout (order_with h b) → not ok ≡ false → h.kind ≡ Register → 130 ≤ h.to_sign
  counts_handle ok is_ok told k = (register_shaped (order_with h b) k (sym is_ok ∙ not-false ok told)).least

  module _ (k : h.kind ≡ Register) (ok : is_of_layout (order_with h b) ≡ true) where
    pub register_least : 130 ≤ h.to_sign
    register_least = (register_shaped (order_with h b) k ok).least

    pub register_most : h.to_sign ≤ 385
    register_most = (register_shaped (order_with h b) k ok).most

    pub register_marker : byte b (h.to_sign - 65) ≡ 0x04
    register_marker = (register_shaped (order_with h b) k ok).marker

module _ (h : Head) (certificate signature reply : List ℕ) (asked : room_of h.kind h ≤ length reply) (short : length signature ≤ 72) where
  pub register_body_fits : h.kind ≡ Register → length certificate ≡ h.certificate_length
      → 67 + (h.to_sign - 130) + length certificate + length signature ≤ length reply
  register_body_fits k e =
      let room : room_of h.kind h ≡ register_room (h.to_sign - 130) h.certificate_length = ap (λ (kind : Kind). room_of kind h) k in omega arith

  pub authenticate_body_fits : h.kind ≡ Authenticate → 5 + length signature ≤ length reply
  authenticate_body_fits k = let room : room_of h.kind h ≡ authenticate_room = ap (λ (kind : Kind). room_of kind h) k in omega arith

-- ---- bodies, as the code puts them together from parts of the block
pub six : (a b c d e f : List ℕ) → a ++ b ++ c ++ d ++ e ++ f ≡ a ++ (b ++ c) ++ (d ++ (e ++ f))
six a b c d e f = simp append_assoc

module _ (n : ℕ) (b : List ℕ) (few : 130 ≤ n) (many : n ≤ 385) (whole : length b ≡ 385) where
  -- the public key is the last 65 bytes to sign
  pub key_at : byte b (n - 65) ≡ 0x04 → bytes_at (n - 65) 65 b ≡ public_key (bytes_at (n - 64) 32 b) (bytes_at (n - 32) 32 b)
  key_at marker =
      let next : suc (n - 65) ≡ n - 64 = omega arith in
      let last : n - 64 + 32 ≡ n - 32 = omega arith in
      let split : drop (n - 65) b ≡ 0x04 ∷ drop (n - 64) b = drop-cons b (n - 65) 0 (omega arith) ∙ rw (marker, next) in
      ap (take 65) split
      ∙ ap (λ (l : List ℕ). 0x04 ∷ l) (sym (parts_join (n - 64) 32 32 b) ∙ ap (λ (m : ℕ). bytes_at (n - 64) 32 b ++ bytes_at m 32 b) last)

  key_is : byte b (n - 65) ≡ 0x04 → take (n - (n - 65)) (drop (n - 65) b) ≡ public_key (bytes_at (n - 64) 32 b) (bytes_at (n - 32) 32 b)
  key_is marker = let one : n - (n - 65) ≡ 65 = omega arith in ap (λ (m : ℕ). take m (drop (n - 65) b)) one ∙ key_at marker

  handle_is : take (n - 65 - 65) (drop 65 b) ≡ bytes_at 65 (n - 130) b
  handle_is = let same : n - 65 - 65 ≡ n - 130 = omega arith in rw same

  handle_length : length (bytes_at 65 (n - 130) b) ≡ n - 130
  handle_length = length_part 65 (n - 130) b (omega arith)

  module _ (certificate signature : List ℕ) where
    -- the first 67 bytes are put together apart from the rest
    pub register_written : (old out head room : List ℕ) → byte b (n - 65) ≡ 0x04 → length room ≡ 67
        → head ≡ laid (0x05 ∷ [] ++ (take (n - (n - 65)) (drop (n - 65) b) ++ (n - 130) ∷ [])) room
        → out ≡ laid (head ++ (take (n - 65 - 65) (drop 65 b) ++ (certificate ++ signature))) old
        → out ≡ laid (register_body (register_fields_of n b) certificate signature) old
    register_written old out head room marker long is_head e =
        let key : List ℕ = public_key (bytes_at (n - 64) 32 b) (bytes_at (n - 32) 32 b) in
        let handle : List ℕ = bytes_at 65 (n - 130) b in
        let front : List ℕ = 0x05 ∷ [] ++ (key ++ length handle ∷ []) in
        let sixty_seven : length front ≡ 67 =
        simp length-append (omega (arith, length_part (n - 64) 32 b (omega arith), length_part (n - 32) 32 b (omega arith))) in
        let head_is : head ≡ front =
        is_head
        ∙ ap (λ (k : List ℕ). laid (0x05 ∷ [] ++ (k ++ (n - 130) ∷ [])) room) (key_is marker)
        ∙ ap (λ (h : ℕ). laid (0x05 ∷ [] ++ (key ++ h ∷ [])) room) (sym handle_length)
        ∙ laid_whole front room (long ∙ sym sixty_seven) in
        let grouped : register_body (register_fields_of n b) certificate signature ≡ front ++ (handle ++ (certificate ++ signature)) =
        six (0x05 ∷ []) key (length handle ∷ []) handle certificate signature in
        e
        ∙ ap (λ (f : List ℕ). laid (f ++ (take (n - 65 - 65) (drop 65 b) ++ (certificate ++ signature))) old) head_is
        ∙ ap (λ (h : List ℕ). laid (front ++ (h ++ (certificate ++ signature))) old) handle_is
        ∙ ap (λ (body : List ℕ). laid body old) (sym grouped)

    pub register_body_length : 67 + (n - 130) + length certificate + length signature ≡ length (register_body (register_fields_of n b) certificate signature)
    register_body_length =
        simp length-append
        (omega (arith, handle_length, length_part (n - 64) 32 b (omega arith), length_part (n - 32) 32 b (omega arith)))

module _ (b signature : List ℕ) where
  pub authenticate_written : (old out : List ℕ) → out ≡ laid (byte b 32 ∷ [] ++ (take 4 (drop 33 b) ++ signature)) old
      → out ≡ laid (authenticate_body (authenticate_fields_of b) signature) old
  authenticate_written old out e = e

  pub authenticate_body_length : length b ≡ 385 → 5 + length signature ≡ length (authenticate_body (authenticate_fields_of b) signature)
  authenticate_body_length whole = simp length-append (omega (arith, length_part 33 4 b (omega arith)))

module _ (h : Head) (b certificate signature : List ℕ) where
  module _ (k : h.kind ≡ Register) where
    its_body : register_body (register_fields_of h.to_sign b) certificate signature ≡ body_of h.kind (order_with h b) certificate signature
    its_body = ap (λ (kind : Kind). body_of kind (order_with h b) certificate signature) (sym k)

    pub register_length_said : (r : ℕ) → r ≡ length (register_body (register_fields_of h.to_sign b) certificate signature)
        → r ≡ length (body_of h.kind (order_with h b) certificate signature)
    register_length_said r e = e ∙ ap length its_body

    pub register_put : (old out : List ℕ) → out ≡ laid (register_body (register_fields_of h.to_sign b) certificate signature) old
        → out ≡ laid (body_of h.kind (order_with h b) certificate signature) old
    register_put old out e = e ∙ ap (λ (body : List ℕ). laid body old) its_body

  module _ (k : h.kind ≡ Authenticate) where
    this_body : authenticate_body (authenticate_fields_of b) signature ≡ body_of h.kind (order_with h b) certificate signature
    this_body = ap (λ (kind : Kind). body_of kind (order_with h b) certificate signature) (sym k)

    pub authenticate_length_said : (r : ℕ) → r ≡ length (authenticate_body (authenticate_fields_of b) signature)
        → r ≡ length (body_of h.kind (order_with h b) certificate signature)
    authenticate_length_said r e = e ∙ ap length this_body

    pub authenticate_put : (old out : List ℕ) → out ≡ laid (authenticate_body (authenticate_fields_of b) signature) old
        → out ≡ laid (body_of h.kind (order_with h b) certificate signature) old
    authenticate_put old out e = e ∙ ap (λ (body : List ℕ). laid body old) this_body

-- ---- finishing
finishes : (i : Finishing) (x : Outcome (List ℕ)) (answer : Finished) (after : List ℕ) → finish_of i ≡ x
    → finished_of answer ≡ length_of x → after ≡ reply_of x i.reply → Finishes i answer after
finishes i x answer after e s l =
    record {
      says = s ∙ ap length_of (sym e);
      leaves = l ∙ ap (λ (y : Outcome (List ℕ)). reply_of y i.reply) (sym e);
    }

-- a test's answer and the fact that it stands for
pub of_layout : (o : Order) (ok : Bool) → ok ≡ is_of_layout o → not ok ≡ false → is_of_layout o ≡ true
of_layout o ok is_ok told = sym is_ok ∙ not-false ok told

pub enough : (asked room : ℕ) (has : Bool) → has ≡ leb asked room → not has ≡ false → asked ≤ room
enough asked room has is_has told = leb-true asked room (sym is_has ∙ not-false has told)

abbrev lent : (o : Order) (certificate : List ℕ) (signed : Bool) (signature reply : List ℕ) → Finishing
lent o certificate signed signature reply =
    record { order = o; certificate = certificate; signed = signed; signature = signature; reply = reply }

module _ (o : Order) (certificate : List ℕ) (signed : Bool) (signature reply : List ℕ) (ok : Bool) (is_ok : ok ≡ is_of_layout o) where
  pub answers_r7 : not ok ≡ true → Finishes (lent o certificate signed signature reply) (Err (Refused R7)) reply
  answers_r7 told = finishes (lent o certificate signed signature reply) (R 7) _ _ (comes_to_r7 _ (sym is_ok ∙ not-true ok told)) refl refl

  module _ (pass : not ok ≡ false) where
    pub answers_r4 : (length certificate ≡ certificate_length o → ⊥) → Finishes (lent o certificate signed signature reply) (Err (Refused R4)) reply
    answers_r4 other =
        finishes (lent o certificate signed signature reply) (R 4) _ _ (comes_to_r4 _ (of_layout o ok is_ok pass) other) refl refl

    module _ (its : length certificate ≡ certificate_length o) (has : Bool) (is_has : has ≡ leb (room_needed o) (length reply)) where
      pub answers_r2 : not has ≡ true → Finishes (lent o certificate signed signature reply) (Err (Refused R2)) reply
      answers_r2 told =
          finishes (lent o certificate signed signature reply) (R 2) _ _
          (comes_to_r2 _ (of_layout o ok is_ok pass) its (leb-false (room_needed o) (length reply) (sym is_has ∙ not-true has told))) refl refl

      module _ (room : not has ≡ false) where
        pub answers_6f00 : not signed ≡ true → Finishes (lent o certificate signed signature reply) (Err (Status InternalException)) reply
        answers_6f00 told =
            finishes (lent o certificate signed signature reply) (SW 0x6f00) _ _
            (comes_to_6f00 _ (of_layout o ok is_ok pass) its (enough _ _ has is_has room) (not-true signed told)) refl refl

        module _ (done : not signed ≡ false) where
          pub answers_r3 : 72 < length signature → Finishes (lent o certificate signed signature reply) (Err (Refused R3)) reply
          answers_r3 long =
              finishes (lent o certificate signed signature reply) (R 3) _ _
              (comes_to_r3 _ (of_layout o ok is_ok pass) its (enough _ _ has is_has room) (not-false signed done) long) refl refl

          pub answers_body : (n : ℕ) (out : List ℕ) → length signature ≤ 72
              → n ≡ length (body_of o.kind o certificate signature)
              → out ≡ laid (body_of o.kind o certificate signature) reply
              → Finishes (lent o certificate signed signature reply) (Ok n) out
          answers_body n out short is_n is_out =
              finishes (lent o certificate signed signature reply) (Gives (body_of o.kind o certificate signature)) _ _
              (comes_to_body _ (of_layout o ok is_ok pass) its (enough _ _ has is_has room) (not-false signed done) short) (ap Gives is_n) is_out
