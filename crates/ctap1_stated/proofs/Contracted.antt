-- What a function hands back and leaves, by its contract alone, is what is decided on a frame of its command.
use Prim.Native.Nat.{ℕ}
use mathlib.Core.Path.{◌≡◌, refl, ap, sym, ◌∙◌}
use mathlib.Core.Bool.{Bool, true, false}
use mathlib.Core.List.{List}
use lib.Dec.{ltb}
use Rattle.outcome.specs.Notation.{when◌then◌else◌}
use Rattle.outcome.specs.Outcome.{Outcome, R, Word, Gives}
use Rattle.apdu_stated.specs.Answers.{Says}
use Rattle.command_stated.specs.Command.{Command, Register, Authenticate, Version}
use Rattle.u2f_up_stated.specs.declared.Presence.{Presence}
use Rattle.u2f_up_stated.specs.declared.Finding.{Finding}
use Rattle.u2f_up_stated.specs.Moments.{moved_to, checked_of}
use Rattle.u2f_up_stated.specs.Numbers.{checked_in}
use Rattle.u2f_up_stated.specs.Terms.{NotRefused}
use Rattle.u2f_up_stated.proofs.Laws.{settle_moves, settles_moved, checked_below}
use Rattle.signing_stated.specs.Orders.{kind_no, blank_order}
use Rattle.ctap1_stated.specs.Words.{Inputs, Decision, DecisionGives, Body, Ordered, Part, DecisionResult, DecisionAlone, DecisionLeft, alone_from, handed_of, handed_from, left_from, enrolment_of, unfetched}
use Rattle.ctap1_stated.specs.Path.{DecisionPath, NoRoom, SixBytes, version_path, register_path, register_ending, login_path, command_path}
use Rattle.ctap1_stated.specs.Decision.{along_by, along, left_of, block_after, blank_alone}
use Rattle.ctap1_stated.specs.Table.{DecidesExactly}
use Rattle.ctap1_stated.specs.Terms.{Decider, Comes, HandsNoOrder, BlockWritten}
use Rattle.ctap1_stated.proofs.Ways.{came, sound}

-- nothing is ordered
pub bare : (r : Decision) (o : Outcome DecisionGives) → alone_from r ≡ blank_alone o → HandsNoOrder r
unfolding blank_order
bare r o e = (
  ap (λ (d : DecisionAlone). kind_no d.head.kind) e,
  ap (λ (d : DecisionAlone). d.head.to_sign) e,
  ap (λ (d : DecisionAlone). d.head.certificate_length) e,
  ap (λ (d : DecisionAlone). d.taken) e,
)

-- the block after a decision
pub block_written : (d : DecisionResult) (old block : List ℕ) → block ≡ block_after d.answer d.order.bytes old → BlockWritten d old block
block_written d old block e = (λ o. e ∙ ap (λ (x : Outcome DecisionGives). block_after x d.order.bytes old) o, λ none. e ∙ by d.answer none)
  where
    by : (o : Outcome DecisionGives) → (o ≡ Gives Ordered → ⊥) → block_after o d.order.bytes old ≡ old
    by (R n) x = refl
    by (Word w) x = refl
    by (Gives (Body n)) x = refl
    by (Gives Ordered) x = absurd (x refl)
    by (Gives (Part n after)) x = refl

-- along a command's path, where the record settles: with the touch check on numbers, too
module _ (g : Decider) (G : DecidesExactly g) (p : Presence) (t : ℕ) (a : Inputs) (ok : NotRefused p a.side t) where
  check_is : ◌≡◌ {A = Presence → Finding} (λ q. checked_in q a.side t) (λ q. checked_of q a.side t)
  check_is = λ d q. checked_below q a.side t (settles_moved p a.side t _ (sym (settle_moves p a.side t ok))).1 d

  decided : (c : Command) → Comes a c → along (command_path a (Gives c)) p (moved_to p t) a.side t ≡ g p t a
  decided c e = sym (came p t a c ok e) ∙ sound p t a (g p t a) (G p t a)

  on_numbers : (c : Command) → Comes a c → along_by (λ q. checked_in q a.side t) (command_path a (Gives c)) p (moved_to p t) ≡ g p t a
  on_numbers c e = ap (λ (f : Presence → Finding). along_by f (command_path a (Gives c)) p (moved_to p t)) check_is ∙ decided c e

  -- what is left by a contract that goes along the command's path
  pub as_decided : (c : Command) → Comes a c → (path : DecisionPath) → path ≡ command_path a (Gives c) → (r : Decision) (q : Presence) (old block : List ℕ)
      → left_from r q block ≡ left_of (along_by (λ q. checked_in q a.side t) path p (moved_to p t)) old → (handed_from r q ≡ handed_of (g p t a)) × BlockWritten (g p t a) old block
  as_decided c e path is r q old block l =
      let left : left_from r q block ≡ left_of (g p t a) old =
      l ∙ ap (λ (x : DecisionPath). left_of (along_by (λ q. checked_in q a.side t) x p (moved_to p t)) old) is ∙ ap (λ (x : DecisionResult). left_of x old) (on_numbers c e) in
      (ap (λ (w : DecisionLeft). w.said) left, block_written (g p t a) old block (ap (λ (w : DecisionLeft). w.block) left))

  -- ---- Register and Authenticate: of what is lent they look at no more than the contract names
  pub register_path_lem : (said : Says) → register_path (unfetched a.side a.frame a.hardware (enrolment_of a.new_handle a.certificate a.x a.y) a.room) said ≡ command_path a (Gives (Register said))
  unfolding command_path register_path register_ending
  register_path_lem said = refl

  pub login_path_lem : (p1 : ℕ) (said : Says) → login_path a.frame a.hardware a.room p1 said ≡ command_path a (Gives (Authenticate p1 said))
  unfolding command_path
  login_path_lem p1 said = refl

  -- ---- Version looks at no touch check
  version_path_lem : (room : ℕ) → along (version_path room) p (moved_to p t) 0 0 ≡ along (version_path room) p (moved_to p t) a.side t
  unfolding version_path
  version_path_lem room = by (ltb room 6)
    where
      by : (b : Bool) → along (when b then NoRoom else SixBytes) p (moved_to p t) 0 0 ≡ along (when b then NoRoom else SixBytes) p (moved_to p t) a.side t
      by true = refl
      by false = refl

  pub version_decided : (room : ℕ) → Comes a Version → room ≡ a.room → along (version_path room) p (moved_to p t) 0 0 ≡ g p t a
  unfolding command_path
  version_decided room e is = version_path_lem room ∙ ap (λ (n : ℕ). along (version_path n) p (moved_to p t) a.side t) is ∙ decided Version e
