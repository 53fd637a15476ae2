-- What a decision hands back depends on the new handle and the certificate by their lengths alone.
use Prim.Native.Nat.{ℕ}
use mathlib.Core.Path.{◌≡◌, refl, ap₂, ◌∙◌}
use mathlib.Core.Bool.{Bool, true, false, not}
use lib.Dec.{ltb}
use lib.ListN.{length}
use Rattle.outcome.specs.Notation.{when◌then◌else◌}
use Rattle.outcome.specs.Outcome.{Outcome, R, Word, Gives}
use Rattle.apdu_stated.specs.Answers.{Says}
use Rattle.command_stated.specs.Command.{Command, Register, Authenticate, Version, GetResponse, command_of}
use Rattle.u2f_up_stated.specs.Moments.{settle_of, checked_of}
use Rattle.u2f_up_stated.specs.declared.Presence.{Presence}
use Rattle.u2f_up_stated.specs.declared.Finding.{Finding}
use Rattle.signing_stated.specs.Finishing.{register_room}
use Rattle.signing_stated.proofs.Laws.{head_by_lengths}
use Rattle.ctap1_stated.specs.Words.{Order, head_of, Ordered, Allowed, Inputs, Enrolment, is_present, handed_of}
use Rattle.ctap1_stated.specs.declared.Allowed.TheVariants as Allowed'
use Rattle.ctap1_stated.specs.Path.{Internal, Orders, DecisionPath, NoRoom, Touch, enrolment_order, register_ordered, register_ending, register_path, command_path, allowed_path, path_of}
use Rattle.ctap1_stated.specs.Decision.{status_result, ended, along_by, along, on_moment, decision_of}
use Rattle.ctap1_stated.specs.Terms.{with_contents, AsLong}

-- a Register's path, by its tests and its order
abbrev enrols : (short stored long present : Bool) → Order → DecisionPath
enrols short stored long present o =
    when short then NoRoom
    else Touch (when not stored then Internal else when long then Internal else when not present then Internal else Orders o false)

-- with another order of the same head, the same is handed back
module _ (o p : Order) (heads : head_of o ≡ head_of p) where
  checked : (found : Bool) (q : Presence)
      → handed_of (when not found then status_result 0x6985 q else ended (Orders o false) q) ≡ handed_of (when not found then status_result 0x6985 q else ended (Orders p false) q)
  checked false q = refl
  checked true q = λ d. record { answer = Gives Ordered; presence = q; head = heads d; taken = false }

  same_head : (check : Presence → Finding) (short stored long present : Bool) (kept settled : Presence)
      → handed_of (along_by check (enrols short stored long present o) kept settled) ≡ handed_of (along_by check (enrols short stored long present p) kept settled)
  same_head check true stored long present kept settled = refl
  same_head check false false long present kept settled = refl
  same_head check false true true present kept settled = refl
  same_head check false true false false kept settled = refl
  same_head check false true false true kept settled = checked (check settled).yes (check settled).presence

module _ (p : Presence) (t : ℕ) (a : Inputs) (e : Enrolment) (l : AsLong e a) where
  heads_same : (said : Says) → head_of (register_ordered (with_contents e a) said) ≡ head_of (register_ordered a said)
  unfolding enrolment_order
  heads_same said = head_by_lengths _ _ _ _ refl refl l.new_handle l.x l.y l.certificate

  enrolled : (said : Says) (q : Presence) → handed_of (along (register_path (with_contents e a) said) p q a.side t) ≡ handed_of (along (register_path a said) p q a.side t)
  unfolding register_path register_ending
  enrolled said q =
      let check : Presence → Finding = λ r. checked_of r a.side t in
      let stored = a.hardware.stored in
      let present = is_present a.hardware.attestation in
      ap₂ (λ (h c : ℕ). handed_of (along_by check (enrols (ltb a.room (register_room h c)) stored (ltb 255 h) present (register_ordered (with_contents e a) said)) p q)) l.new_handle l.certificate
      ∙ same_head (register_ordered (with_contents e a) said) (register_ordered a said) (heads_same said) check
      (ltb a.room (register_room (length a.new_handle) (length a.certificate))) stored (ltb 255 (length a.new_handle)) present p q

  by_command : (c : Outcome Command) (q : Presence) → handed_of (along (command_path (with_contents e a) c) p q a.side t) ≡ handed_of (along (command_path a c) p q a.side t)
  unfolding command_path
  by_command (R n) q = refl
  by_command (Word s) q = refl
  by_command (Gives Version) q = refl
  by_command (Gives GetResponse) q = refl
  by_command (Gives (Register said)) q = enrolled said q
  by_command (Gives (Authenticate p1 said)) q = refl

  by_allowed : (w : Allowed) (q : Presence) → handed_of (along (allowed_path w (with_contents e a)) p q a.side t) ≡ handed_of (along (allowed_path w a) p q a.side t)
  unfolding allowed_path
  by_allowed Allowed'.Failed q = refl
  by_allowed Allowed'.No q = refl
  by_allowed Allowed'.Yes q = by_command (command_of a.frame) q

  by_moment : (o : Outcome Presence) → handed_of (on_moment p a.side t (path_of (with_contents e a)) o) ≡ handed_of (on_moment p a.side t (path_of a) o)
  unfolding path_of
  by_moment (R n) = refl
  by_moment (Word s) = refl
  by_moment (Gives q) = by_allowed a.hardware.allowed q

  pub by_lengths : handed_of (decision_of p t (with_contents e a)) ≡ handed_of (decision_of p t a)
  unfolding decision_of
  by_lengths = by_moment (settle_of p a.side t)
