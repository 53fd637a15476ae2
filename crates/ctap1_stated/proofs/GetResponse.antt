-- A shaped C0 is refused, gets a status word, or gets the next part.
use Prim.Native.Nat.{ℕ, ◌+◌, ◌-◌, ◌<◌, ◌≤◌}
use mathlib.Core.Path.{◌≡◌, refl, ap, sym, ◌∙◌}
use native.Mathlib.Omega.{arith}
use Rattle.outcome.specs.Outcome.{StatusWord, Outcome, Gives, plain_word}
use Rattle.outcome.proofs.Laws.{gives_same, r_gives, word_gives}
use Rattle.apdu_stated.specs.Answers.{Says}
use Rattle.apdu_stated.specs.Reading.{read_of}
use Rattle.command_stated.specs.Command.{Register, Authenticate, Version, GetResponse, command_of}
use Rattle.command_stated.proofs.Laws.{RegisterExactly, AuthenticateExactly, VersionExactly}
use Rattle.u2f_up_stated.specs.Moments.{moved_to}
use Rattle.u2f_up_stated.specs.declared.Presence.{Presence}
use Rattle.u2f_up_stated.specs.Terms.{NotRefused}
use Rattle.response_stated.specs.declared.Remainder.{Remainder}
use Rattle.response_stated.specs.Words.{rest}
use Rattle.response_stated.specs.Parts.{part_length, rest_after}
use Rattle.ctap1_stated.specs.Words.{Inputs, DecisionGives, Part, DecisionResult}
use Rattle.ctap1_stated.specs.Path.{frame_limit}
use Rattle.ctap1_stated.specs.Decision.{refusal_result, word_result, part_result, decision_of}
use Rattle.ctap1_stated.specs.Terms.{HasInsC0, Comes, Fetching}
use Rattle.ctap1_stated.specs.Table
use Rattle.ctap1_stated.specs.Table.{Answers}
use Rattle.ctap1_stated.proofs.Ways.{sound, row}
use Rattle.ctap1_stated.proofs.Orders.{part_body, part_order}

module _ (p : Presence) (t : ℕ) (a : Inputs) where
  abbrev pub takes : ℕ
  takes = part_length (frame_limit a.frame) a.remainder.count

  pub data Asked : DecisionResult → Type 0 where
    is_refused : (n : ℕ) → Asked (refusal_result n p)
    is_word : (w : StatusWord) (q : Presence) → Asked (word_result w q)
    is_part : 0 < a.remainder.count → a.remainder.place + a.remainder.count ≤ a.room → takes + 2 ≤ a.part_room
        → Asked (part_result (record { length = takes + 2; remainder = rest_after a.remainder (frame_limit a.frame) }) (moved_to p t))

  -- a part, and what it shows
  pub record IsPart (n : ℕ) (after : Remainder) : Type 0 where
    pub comes : Fetching p t a
    pub within : a.remainder.place + a.remainder.count ≤ a.room
    pub room : takes + 2 ≤ a.part_room
    pub long : n ≡ takes + 2
    pub left : after ≡ rest_after a.remainder (frame_limit a.frame)

  pub is_a_part : (n : ℕ) (after : Remainder) → (decision_of p t a).answer ≡ Gives (Part n after) → IsPart n after
  is_a_part n after e = by (decision_of p t a) (row p t a) e
    where
      parts : (m : ℕ) (k : Remainder) → ◌≡◌ {A = Outcome DecisionGives} (Gives (Part m k)) (Gives (Part n after)) → (m ≡ n) × (k ≡ after)
      parts m k x = (cc, cc)

      by : (r : DecisionResult) → Answers p t a r → r.answer ≡ Gives (Part n after) → IsPart n after
      by _ (Table.r6 b) x = absurd (r_gives _ _ x)
      by _ (Table.r8 g b) x = absurd (r_gives _ _ x)
      by _ (Table.r1 g h b) x = absurd (r_gives _ _ x)
      by _ (Table.failed ok y) x = absurd (word_gives _ _ x)
      by _ (Table.forbidden ok y) x = absurd (word_gives _ _ x)
      by _ (Table.frame ok y s z) x = absurd (word_gives _ _ x)
      by _ (Table.version_short ok c h) x = absurd (r_gives _ _ x)
      by _ (Table.version ok c h) x = absurd (part_body _ _ _ (sym x))
      by _ (Table.register_short said ok c h) x = absurd (r_gives _ _ x)
      by _ (Table.register_6985 said y m) x = absurd (word_gives _ _ x)
      by _ (Table.register_other said y o) x = absurd (word_gives _ _ x)
      by _ (Table.not_stored said y l s) x = absurd (word_gives _ _ x)
      by _ (Table.long said y l s k) x = absurd (word_gives _ _ x)
      by _ (Table.missing said y l s k m) x = absurd (word_gives _ _ x)
      by _ (Table.no_attestation said y l s k m) x = absurd (word_gives _ _ x)
      by _ (Table.enrols said y l s k m) x = absurd (part_order _ _ (sym x))
      by _ (Table.bad_handle p1 said ok c g) x = absurd (word_gives _ _ x)
      by _ (Table.check_only said ok c g) x = absurd (word_gives _ _ x)
      by _ (Table.sign_short p1 said ok c g m h) x = absurd (r_gives _ _ x)
      by _ (Table.sign_6985 said y m) x = absurd (word_gives _ _ x)
      by _ (Table.sign_other said y o) x = absurd (word_gives _ _ x)
      by _ (Table.no_counter_03 said y l k) x = absurd (word_gives _ _ x)
      by _ (Table.signs_03 said m y l k) x = absurd (part_order _ _ (sym x))
      by _ (Table.no_counter_08 said y k) x = absurd (word_gives _ _ x)
      by _ (Table.signs_08 said m y k) x = absurd (part_order _ _ (sym x))
      by _ (Table.fetch_nothing ok c z) x = absurd (word_gives _ _ x)
      by _ (Table.fetch_short_body y h) x = absurd (r_gives _ _ x)
      by _ (Table.fetch_short_part y g h) x = absurd (r_gives _ _ x)
      by _ (Table.fetch m z y g h) x =
          let q = parts _ _ x in
          record { comes = y; within = g; room = rw z at h; long = sym q.0 ∙ ap (λ (k : ℕ). k + 2) z; left = sym q.1 ∙ ap (λ (k : ℕ). rest (a.remainder.place + k) (a.remainder.count - k)) z }

  -- a C0 that nothing stands against
  pub served : Fetching p t a → a.remainder.place + a.remainder.count ≤ a.room → takes + 2 ≤ a.part_room
      → decision_of p t a ≡ part_result (record { length = takes + 2; remainder = rest_after a.remainder (frame_limit a.frame) }) (moved_to p t)
  served x g h = sound p t a _ (Table.fetch takes refl x g h)

  pub nothing_left : NotRefused p a.side t → Comes a GetResponse → a.remainder.count ≡ 0 → decision_of p t a ≡ word_result (plain_word 0x6985) (moved_to p t)
  nothing_left ok c z = sound p t a _ (Table.fetch_nothing ok c z)

  module _ (is_c0 : HasInsC0 a) where
    other_ins : (k : ℕ) (said : Says) → read_of a.frame ≡ Gives said → said.header.ins ≡ k → (k ≡ 0xC0 → ⊥) → ⊥
    other_ins k said r i n = n (sym i ∙ ap (λ (s : Says). s.header.ins) (gives_same said is_c0.0 (sym r ∙ is_c0.1)) ∙ is_c0.2)

    no_version : command_of a.frame ≡ Gives Version → ⊥
    no_version c = let f = (VersionExactly a.frame).0 c in other_ins 0x03 f.0 f.1 f.3 (λ e. omega arith)

    no_register : (said : Says) → command_of a.frame ≡ Gives (Register said) → ⊥
    no_register said c = let f = (RegisterExactly a.frame said).0 c in other_ins 0x01 said f.0 f.2 (λ e. omega arith)

    no_authenticate : (p1 : ℕ) (said : Says) → command_of a.frame ≡ Gives (Authenticate p1 said) → ⊥
    no_authenticate p1 said c = let f = (AuthenticateExactly a.frame p1 said).0 c in other_ins 0x02 said f.0 f.2 (λ e. omega arith)

    pub asked : Asked (decision_of p t a)
    asked = by (decision_of p t a) (row p t a)
      where
        by : (r : DecisionResult) → Answers p t a r → Asked r
        by _ (Table.r6 b) = is_refused 6
        by _ (Table.r8 g b) = is_refused 8
        by _ (Table.r1 g h b) = is_refused 1
        by _ (Table.failed ok y) = is_word _ _
        by _ (Table.forbidden ok y) = is_word _ _
        by _ (Table.frame ok y s e) = is_word s _
        by _ (Table.version_short ok c h) = is_refused 2
        by _ (Table.version ok c h) = absurd (no_version c.1)
        by _ (Table.register_short said ok c h) = is_refused 2
        by _ (Table.register_6985 said x n) = is_word _ _
        by _ (Table.register_other said x o) = is_word _ _
        by _ (Table.not_stored said x l s) = is_word _ _
        by _ (Table.long said x l s k) = is_word _ _
        by _ (Table.missing said x l s k m) = is_word _ _
        by _ (Table.no_attestation said x l s k m) = is_word _ _
        by _ (Table.enrols said x l s k m) = absurd (no_register said x.1.1)
        by _ (Table.bad_handle p1 said ok c g) = is_word _ _
        by _ (Table.check_only said ok c g) = is_word _ _
        by _ (Table.sign_short p1 said ok c g n h) = is_refused 2
        by _ (Table.sign_6985 said x n) = is_word _ _
        by _ (Table.sign_other said x o) = is_word _ _
        by _ (Table.no_counter_03 said x l k) = is_word _ _
        by _ (Table.signs_03 said n x l k) = absurd (no_authenticate 0x03 said x.1.1)
        by _ (Table.no_counter_08 said x k) = is_word _ _
        by _ (Table.signs_08 said n x k) = absurd (no_authenticate 0x08 said x.1.1)
        by _ (Table.fetch_nothing ok c e) = is_word _ _
        by _ (Table.fetch_short_body x h) = is_refused 2
        by _ (Table.fetch_short_part x g h) = is_refused 2
        by _ (Table.fetch n e x g h) = rw e (is_part x.2 g (rw e at h))
