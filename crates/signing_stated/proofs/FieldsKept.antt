-- Orders and their fields: what a made order's block holds, and the fields of a block that has a layout.
use Prim.Native.Nat.{ℕ, ◌+◌, ◌-◌, ◌≤◌, ◌<◌}
use mathlib.Core.Bool.{true}
use mathlib.Core.Path.{◌≡◌, refl, sym, ap, ◌∙◌}
use mathlib.Core.List.{List, [], ◌∷◌, ◌++◌, append_assoc}
use native.Mathlib.Omega.{arith}
use lib.ListN.{length, take, drop, replicate, length-append, length-drop, take-append-drop}
use lib.Seq.{length-take-le, take_at, drop_at, drop-cons, take-add, get_or-drop, get_or-take}
use Rattle.octets.specs.Bytes.{byte, all_zero}
use Rattle.octets.proofs.Laws.{field_at, length_part, laid_zeros, all_zero_replicate, replicate_all_zero}
use Rattle.signing_stated.specs.Layouts.{RegisterFields, AuthenticateFields, register_to_sign, authenticate_to_sign, public_key}
use Rattle.signing_stated.specs.Orders.{Order, Register, Authenticate, to_sign, certificate_length, block, register_fields_of, authenticate_fields_of, register_order_of, authenticate_order_of}
use Rattle.signing_stated.specs.Terms.{bytes_at, RegisterLengths, AuthenticateLengths}
use Rattle.signing_stated.proofs.Shapes.{RegisterShape, AuthenticateShape}
use Rattle.signing_stated.proofs.Cases.{key_at}
use Rattle.signing_stated.proofs.Fit.{register_order_fit, authenticate_order_fit}

-- a block is what was laid, then zeros
block_is : (s : List ℕ) → length s ≤ 385 → block s ≡ s ++ replicate (385 - length s) 0
unfolding block
block_is s h = laid_zeros s 385 h

pub block_front : (s : List ℕ) (n : ℕ) → length s ≡ n → n ≤ 385 → take n (block s) ≡ s
block_front s n e h = rw (block_is s (omega arith)) (take_at s (replicate (385 - length s) 0) n e)

block_rest : (s : List ℕ) (n : ℕ) → length s ≡ n → n ≤ 385 → all_zero (drop n (block s)) ≡ true
block_rest s n e h = rw (block_is s (omega arith), drop_at s (replicate (385 - length s) 0) n e) (all_zero_replicate (385 - length s))

-- a block of 385 bytes whose tail is zero is its front, laid
pub block_of : (b : List ℕ) (n : ℕ) → length b ≡ 385 → n ≤ 385 → all_zero (drop n b) ≡ true → b ≡ block (take n b)
block_of b n whole h rest =
    let count : length (drop n b) ≡ 385 - length (take n b) = omega (arith, length-drop n b, length-take-le n b (omega arith)) in
    sym (take-append-drop n b)
    ∙ ap (λ (l : List ℕ). take n b ++ l) (replicate_all_zero (drop n b) rest ∙ ap (λ (k : ℕ). replicate {A = ℕ} k 0) count)
    ∙ sym (block_is (take n b) (omega (arith, length-take-le n b (omega arith))))

-- where each field of a Register order stands
pub record RegisterFound (a d h m u v b : List ℕ) : Type 0 where
  pub application : bytes_at 1 32 b ≡ a
  pub challenge : bytes_at 33 32 b ≡ d
  pub handle : bytes_at 65 (length h) b ≡ h
  pub marker : bytes_at (65 + length h) 1 b ≡ m
  pub x : bytes_at (66 + length h) 32 b ≡ u
  pub y : bytes_at (98 + length h) 32 b ≡ v

register_found : (z a d h m x y rest b : List ℕ) → length z ≡ 1 → length a ≡ 32 → length d ≡ 32 → length m ≡ 1 → length x ≡ 32 → length y ≡ 32
    → b ≡ z ++ a ++ d ++ h ++ (m ++ x ++ y) ++ rest → RegisterFound a d h m x y b
register_found z a d h m x y rest b lz la ld lm lx ly e =
    record {
      application = field_at b z a (d ++ (h ++ (m ++ (x ++ (y ++ rest))))) 1 32 (e ∙ simp append_assoc) lz la;
      challenge = field_at b (z ++ a) d (h ++ (m ++ (x ++ (y ++ rest)))) 33 32 (e ∙ simp append_assoc) (simp length-append (omega arith)) ld;
      handle =
          field_at b (z ++ a ++ d) h (m ++ (x ++ (y ++ rest))) 65 (length h) (e ∙ simp append_assoc) (simp length-append (omega arith)) refl;
      marker =
          field_at b (z ++ a ++ d ++ h) m (x ++ (y ++ rest)) (65 + length h) 1 (e ∙ simp append_assoc) (simp length-append (omega arith)) lm;
      x =
          field_at b (z ++ a ++ d ++ h ++ m) x (y ++ rest) (66 + length h) 32 (e ∙ simp append_assoc) (simp length-append (omega arith)) lx;
      y =
          field_at b (z ++ a ++ d ++ h ++ m ++ x) y rest (98 + length h) 32 (e ∙ simp append_assoc) (simp length-append (omega arith)) ly;
    }

-- where each field of an Authenticate order stands
pub record AuthenticateFound (a p c d b : List ℕ) : Type 0 where
  pub application : bytes_at 0 32 b ≡ a
  pub presence : bytes_at 32 1 b ≡ p
  pub counter : bytes_at 33 4 b ≡ c
  pub challenge : bytes_at 37 32 b ≡ d

authenticate_found : (a p c d rest b : List ℕ) → length a ≡ 32 → length p ≡ 1 → length c ≡ 4 → length d ≡ 32
    → b ≡ a ++ p ++ c ++ d ++ rest → AuthenticateFound a p c d b
authenticate_found a p c d rest b la lp lc ld e =
    record {
      application = field_at b [] a (p ++ (c ++ (d ++ rest))) 0 32 (e ∙ simp append_assoc) refl la;
      presence = field_at b a p (c ++ (d ++ rest)) 32 1 (e ∙ simp append_assoc) la lp;
      counter = field_at b (a ++ p) c (d ++ rest) 33 4 (e ∙ simp append_assoc) (simp length-append (omega arith)) lc;
      challenge = field_at b (a ++ p ++ c) d rest 37 32 (e ∙ simp append_assoc) (simp length-append (omega arith)) ld;
    }

-- the byte of a part of one byte
pub one_byte : (b : List ℕ) (i v : ℕ) → bytes_at i 1 b ≡ v ∷ [] → byte b i ≡ v
one_byte b i v e =
    let same : i ≡ i + 0 = omega arith in
    ap (λ (n : ℕ). byte b n) same ∙ sym (get_or-drop i b 0 0) ∙ sym (get_or-take 1 (drop i b) 0 0 (omega arith)) ∙ ap (λ (l : List ℕ). byte l 0) e

pub register_equal : (f g : RegisterFields) → f.application ≡ g.application → f.challenge ≡ g.challenge → f.handle ≡ g.handle
    → f.x ≡ g.x → f.y ≡ g.y → f ≡ g
register_equal f g a d h x y = λ i. record { application = a i; challenge = d i; handle = h i; x = x i; y = y i }

pub authenticate_equal : (f g : AuthenticateFields) → f.application ≡ g.application → f.presence ≡ g.presence
    → f.counter ≡ g.counter → f.challenge ≡ g.challenge → f ≡ g
authenticate_equal f g a p c d = λ i. record { application = a i; presence = p i; counter = c i; challenge = d i }

pub order_equal : (o p : Order) → o.kind ≡ p.kind → to_sign o ≡ to_sign p → certificate_length o ≡ certificate_length p → o.bytes ≡ p.bytes → o ≡ p
order_equal o p k n c b = λ i. record { kind = k i; to_sign = n i; certificate_length = c i; bytes = b i }

module _ (f : RegisterFields) (l : RegisterLengths f) where
  pub register_to_sign_length : length (register_to_sign f) ≡ 130 + length f.handle
  register_to_sign_length = simp length-append (omega (arith, l.application, l.challenge, l.x, l.y))

  rest_of : List ℕ
  rest_of = replicate (385 - length (register_to_sign f)) 0

  whole_is : block (register_to_sign f) ≡ register_to_sign f ++ rest_of
  unfolding rest_of
  whole_is = block_is (register_to_sign f) (omega (arith, register_to_sign_length, l.handle))

  pub found : RegisterFound f.application f.challenge f.handle (0x04 ∷ []) f.x f.y (block (register_to_sign f))
  found =
      register_found (0x00 ∷ []) f.application f.challenge f.handle (0x04 ∷ []) f.x f.y rest_of (block (register_to_sign f)) refl
      l.application l.challenge refl l.x l.y whole_is

  pub register_kept : register_fields_of (130 + length f.handle) (block (register_to_sign f)) ≡ f
  register_kept =
      let b : List ℕ = block (register_to_sign f) in
      let h : 130 + length f.handle - 130 ≡ length f.handle = omega arith in
      let x : 130 + length f.handle - 64 ≡ 66 + length f.handle = omega arith in
      let y : 130 + length f.handle - 32 ≡ 98 + length f.handle = omega arith in
      register_equal (register_fields_of (130 + length f.handle) (block (register_to_sign f))) f found.application found.challenge
      (ap (λ (n : ℕ). bytes_at 65 n b) h ∙ found.handle)
      (ap (λ (n : ℕ). bytes_at n 32 b) x ∙ found.x)
      (ap (λ (n : ℕ). bytes_at n 32 b) y ∙ found.y)

  pub register_made_shape : RegisterShape (130 + length f.handle) (block (register_to_sign f))
  register_made_shape =
      let b : List ℕ = block (register_to_sign f) in
      let at : 130 + length f.handle - 65 ≡ 65 + length f.handle = omega arith in
      record {
        least = omega arith;
        most = omega (arith, l.handle);
        first = ap (λ (s : List ℕ). byte s 0) whole_is;
        marker = ap (λ (n : ℕ). byte b n) at ∙ one_byte b (65 + length f.handle) 0x04 found.marker;
        rest = block_rest (register_to_sign f) (130 + length f.handle) register_to_sign_length (omega (arith, l.handle));
      }

module _ (f : AuthenticateFields) (l : AuthenticateLengths f) where
  pub authenticate_to_sign_length : length (authenticate_to_sign f) ≡ 69
  authenticate_to_sign_length = simp length-append (omega (arith, l.application, l.counter, l.challenge))

  pub found_in : AuthenticateFound f.application (f.presence ∷ []) f.counter f.challenge (block (authenticate_to_sign f))
  found_in =
      authenticate_found f.application (f.presence ∷ []) f.counter f.challenge (replicate (385 - length (authenticate_to_sign f)) 0)
      (block (authenticate_to_sign f)) l.application refl l.counter l.challenge
      (block_is (authenticate_to_sign f) (omega (arith, authenticate_to_sign_length)))

  pub authenticate_kept : authenticate_fields_of (block (authenticate_to_sign f)) ≡ f
  authenticate_kept =
      authenticate_equal (authenticate_fields_of (block (authenticate_to_sign f))) f found_in.application
      (one_byte (block (authenticate_to_sign f)) 32 f.presence found_in.presence) found_in.counter found_in.challenge

  pub authenticate_made_shape : AuthenticateShape 69 0 (block (authenticate_to_sign f))
  authenticate_made_shape =
      let at : byte (block (authenticate_to_sign f)) 32 ≡ f.presence =
      one_byte (block (authenticate_to_sign f)) 32 f.presence found_in.presence in
      record {
        long = refl;
        presence = omega (arith, at, l.presence);
        rest = block_rest (authenticate_to_sign f) 69 authenticate_to_sign_length (omega arith);
        no_certificate = refl;
      }

-- a front put together from its parts
five_parts : (t₁ t₂ t₃ t₄ t z a d h k : List ℕ) → t₁ ≡ z → t₁ ++ a ≡ t₂ → t₂ ++ d ≡ t₃ → t₃ ++ h ≡ t₄ → t₄ ++ k ≡ t → t ≡ z ++ a ++ d ++ h ++ k
five_parts t₁ t₂ t₃ t₄ t z a d h k e₁ e₂ e₃ e₄ e₅ = cc

four_parts : (t₁ t₂ t₃ t p c d : List ℕ) → t₁ ++ p ≡ t₂ → t₂ ++ c ≡ t₃ → t₃ ++ d ≡ t → t ≡ t₁ ++ p ++ c ++ d
four_parts t₁ t₂ t₃ t p c d e₁ e₂ e₃ = cc

first_byte : (b : List ℕ) (i v : ℕ) → i < length b → byte b i ≡ v → bytes_at i 1 b ≡ v ∷ []
first_byte b i v h e = ap (take 1) (drop-cons b i 0 h) ∙ ap (λ (x : ℕ). x ∷ []) e

module _ (n : ℕ) (b : List ℕ) (whole : length b ≡ 385) (s : RegisterShape n b) where
  register_front : take n b ≡ register_to_sign (register_fields_of n b)
  register_front =
      let at : 65 + (n - 130) ≡ n - 65 = omega (arith, s.least) in
      let key : bytes_at (65 + (n - 130)) 65 b ≡ public_key (bytes_at (n - 64) 32 b) (bytes_at (n - 32) 32 b) =
      ap (λ (m : ℕ). bytes_at m 65 b) at ∙ key_at n b s.least s.most whole s.marker in
      let all : 65 + (n - 130) + 65 ≡ n = omega (arith, s.least) in
      five_parts (take 1 b) (take 33 b) (take 65 b) (take (65 + (n - 130)) b) (take n b) (0x00 ∷ []) (bytes_at 1 32 b) (bytes_at 33 32 b)
      (bytes_at 65 (n - 130) b) (public_key (bytes_at (n - 64) 32 b) (bytes_at (n - 32) 32 b))
      (first_byte b 0 0x00 (omega arith) s.first)
      (sym (take-add 1 32 b))
      (sym (take-add 33 32 b))
      (sym (take-add 65 (n - 130) b))
      (ap (λ (k : List ℕ). take (65 + (n - 130)) b ++ k) (sym key) ∙ sym (take-add (65 + (n - 130)) 65 b) ∙ ap (λ (m : ℕ). take m b) all)

  pub register_fields_lengths : RegisterLengths (register_fields_of n b)
  register_fields_lengths =
      record {
        application = length_part 1 32 b (omega arith);
        challenge = length_part 33 32 b (omega arith);
        handle = omega (arith, s.most, length_part 65 (n - 130) b (omega (arith, s.least, s.most)));
        x = length_part (n - 64) 32 b (omega (arith, s.least, s.most));
        y = length_part (n - 32) 32 b (omega (arith, s.least, s.most));
      }

  register_block : b ≡ block (register_to_sign (register_fields_of n b))
  register_block = block_of b n whole s.most s.rest ∙ ap block register_front

  pub register_order_of_lem : (o : Order) → o.kind ≡ Register → to_sign o ≡ n → o.bytes ≡ b → o ≡ register_order_of (register_fields_of n b) (certificate_length o)
  register_order_of_lem o k e is_b =
      let handle : length (bytes_at 65 (n - 130) b) ≡ n - 130 = length_part 65 (n - 130) b (omega (arith, s.least, s.most)) in
      order_equal o (record { kind = Register; to_sign = 130 + length (bytes_at 65 (n - 130) b); certificate_length = certificate_length o; bytes = block (register_to_sign (register_fields_of n b)) })
      k (omega (arith, e, s.least, handle)) refl (is_b ∙ register_block)
      ∙ sym (register_order_fit (register_fields_of n b) (certificate_length o) register_fields_lengths)

-- of 69 bytes or more, the first 69 are an Authenticate order's, but for the presence byte
pub authenticate_front : (b : List ℕ) → 69 ≤ length b → take 69 b ≡ authenticate_to_sign (authenticate_fields_of b)
authenticate_front b long =
    four_parts (take 32 b) (take 33 b) (take 37 b) (take 69 b) (byte b 32 ∷ []) (bytes_at 33 4 b) (bytes_at 37 32 b)
    (ap (λ (p : List ℕ). take 32 b ++ p) (sym (first_byte b 32 (byte b 32) (omega arith) refl)) ∙ sym (take-add 32 1 b))
    (sym (take-add 33 4 b))
    (sym (take-add 37 32 b))

pub front_lengths : (b : List ℕ) → 69 ≤ length b → byte b 32 ≤ 1 → AuthenticateLengths (authenticate_fields_of b)
front_lengths b long presence =
    record {
      application = length_part 0 32 b (omega arith);
      presence = presence;
      counter = length_part 33 4 b (omega arith);
      challenge = length_part 37 32 b (omega arith);
    }

module _ (b : List ℕ) (whole : length b ≡ 385) (n c : ℕ) (s : AuthenticateShape n c b) where
  pub authenticate_fields_lengths : AuthenticateLengths (authenticate_fields_of b)
  authenticate_fields_lengths = front_lengths b (omega arith) s.presence

  pub authenticate_order_of_lem : (o : Order) → o.kind ≡ Authenticate → to_sign o ≡ n → certificate_length o ≡ c → o.bytes ≡ b
      → o ≡ authenticate_order_of (authenticate_fields_of b)
  authenticate_order_of_lem o k e is_c is_b =
      order_equal o (record { kind = Authenticate; to_sign = 69; certificate_length = 0; bytes = block (authenticate_to_sign (authenticate_fields_of b)) })
      k (e ∙ s.long) (is_c ∙ s.no_certificate) (is_b ∙ block_of b 69 whole (omega arith) s.rest ∙ ap block (authenticate_front b (omega arith)))
      ∙ sym (authenticate_order_fit (authenticate_fields_of b) authenticate_fields_lengths)
