-- What is not ruled out, of a panel that meets its contracts: computed on the definitions.
use Prim.Native.Nat.{ℕ}
use mathlib.Core.Path.{◌≡◌, refl, ap, ap₂, sym, ◌∙◌}
use mathlib.Core.List.{List}
use lib.ListN.{take}
use Rattle.octets.specs.Bytes.{part_of}
use Rattle.apdu_stated.specs.Reading.{read_by, data_of, say_of, lengths_of, short_of, extended_of, after_data}
use Rattle.command_stated.specs.Command.{command_of, on_reading, by_instruction, register_of, authenticate_of, challenge_of, application_of}
use Rattle.u2f_up_stated.specs.Moments.{settle_of, checked_of}
use Rattle.signing_stated.specs.Orders.{register_order_of, authenticate_order_of, block}
use Rattle.ctap1_stated.specs.Numbers.{allowed_of, attestation_of}
use Rattle.ctap1_stated.specs.Path.{command_path, allowed_path, path_of, register_path, register_ending, enrolment_order, login_path, counted_ending}
use Rattle.ctap1_stated.specs.Decision.{decision_of}
use Rattle.panel_stated.specs.declared.DecisionSaid.{DecisionSaid}
use Rattle.panel_stated.specs.Exports.{ToDecide}
use Rattle.demands.specs.Panel.{Panel, Meets}
use Rattle.demands.specs.Carried.{Orders, signed}
use Rattle.demands.specs.NotRuledOut.{posing, posed_as, handleless, going_on, NotRuledOut, OtherBytes}
use Rattle.demands.specs.Wrong as Wrong

-- on the definitions
defined : NotRuledOut Wrong.defined
unfolding decision_of path_of allowed_path command_path register_path register_ending enrolment_order register_order_of login_path counted_ending authenticate_order_of block part_of data_of command_of on_reading by_instruction register_of authenticate_of challenge_of application_of read_by say_of lengths_of short_of extended_of after_data allowed_of attestation_of settle_of checked_of
defined = record {
  enrols = λ n. (refl, refl, refl, refl);
  logs = λ n. (refl, refl, refl, refl);
  enrols_plainly = (refl, refl, refl, refl);
  enrols_on = (refl, refl, refl, refl);
  login_in_front = λ n m. refl;
  enrolment_in_front = refl;
  any_certificate = λ n m. refl;
  any_handle = λ n m. refl;
}

-- and so on every panel that meets the contracts
module _ (P : Panel) (M : Meets P) where
  orders : (k : ℕ) (i : ToDecide) → Orders Wrong.defined k i → Orders P k i
  orders k i (ordered, kind, x, y) = (ap (λ (s : DecisionSaid). s.answer) (M.decide i).0 ∙ ordered, ap (λ (s : DecisionSaid). s.order.kind) (M.decide i).0 ∙ kind, x, y)

  same : (i : ToDecide) → signed P i ≡ signed Wrong.defined i
  same i = ap₂ (λ (s : DecisionSaid) (b : List ℕ). take s.order.to_sign b) (M.decide i).0 (M.decide i).4

  pub not_ruled_out : NotRuledOut P
  not_ruled_out = record {
    enrols = λ n. orders 1 (posing n) (defined.enrols n);
    logs = λ n. orders 2 (posed_as n) (defined.logs n);
    enrols_plainly = orders 1 handleless defined.enrols_plainly;
    enrols_on = orders 1 going_on defined.enrols_on;
    login_in_front = λ n m. ap (take 69) (same (posing n)) ∙ defined.login_in_front n m ∙ sym (same (posed_as m));
    enrolment_in_front = ap (take 130) (same going_on) ∙ defined.enrolment_in_front ∙ sym (same handleless);
    any_certificate = λ n m. same (posing n) ∙ defined.any_certificate n m ∙ sym (same (posing m));
    any_handle = λ n m. same (posed_as n) ∙ defined.any_handle n m ∙ sym (same (posed_as m));
  }

-- ---- with other bytes
pub other_bytes : OtherBytes Wrong.key_left_out Wrong.block_signed
unfolding decision_of path_of allowed_path command_path register_path register_ending enrolment_order register_order_of login_path counted_ending authenticate_order_of block part_of data_of command_of on_reading by_instruction register_of authenticate_of challenge_of application_of read_by say_of lengths_of short_of extended_of after_data allowed_of attestation_of settle_of checked_of
other_bytes = record { without_key = refl; whole_block = refl }
