-- The rows that are printed, of a panel that meets its contracts: by the reply buffer's room (Room.antt) and the parts' (RoomForParts.antt). With them all of the data sheet.
use Prim.Native.Nat.{ℕ, ◌+◌}
use mathlib.Core.Path.{◌≡◌, refl, ap, sym, ◌∙◌}
use mathlib.Core.Logic.{inl}
use native.Mathlib.Omega.{arith}
use lib.ListN.{length}
use Rattle.outcome.specs.Outcome.{Outcome, R, Word, Gives}
use Rattle.panel_stated.specs.Terms.{IsNumbered}
use Rattle.panel_stated.proofs.Outcomes as Outcomes
use Rattle.command_stated.specs.Command.{Command, command_of}
use Rattle.command_stated.proofs.Laws.{RegisterExactly, AuthenticateExactly, VersionExactly, GetResponseExactly}
use Rattle.panel_stated.specs.declared.CommandSaid.{CommandSaid}
use Rattle.panel_stated.specs.Exports.{ToDecide, command_numbers}
use Rattle.datasheet_stated.specs.declared.Figures.{Figures}
use Rattle.std.specs.Prelude.{Ok}
use Rattle.datasheet_stated.specs.Sheet.{sheet_of}
use Rattle.datasheet_stated.specs.Terms.{TakesCommands}
use Rattle.datasheet_stated.proofs.Laws.{row_is}
use Rattle.datasheet_stated.proofs.Theorems as Datasheet
use Rattle.demands.specs.Room.{Fits, FitsRow, RowsServe}
use Rattle.demands.specs.Panel.{Panel, Meets}
use Rattle.demands.specs.Room.{DataSheet}
use Rattle.demands.proofs.Room.{reply_serves, no_more_fits}
use Rattle.demands.proofs.RoomForParts.{in_258, responses_served}

is_command : (o : Outcome Command) → IsNumbered o → (command_numbers o).answer ≡ 0x9000 → (c : Command) × (o ≡ Gives c)
is_command (R n) h e = absurd (omega arith)
is_command (Word s) h e = absurd (omega arith)
is_command (Gives c) h e = (c, refl)

takes_commands : TakesCommands command_of
takes_commands = record { register = RegisterExactly; authenticate = AuthenticateExactly; version = VersionExactly; get_response = GetResponseExactly }

module _ (P : Panel) (M : Meets P) where
  line : (n : ℕ) (f : Figures) (i : ToDecide) → sheet_of n ≡ Ok f → FitsRow f i → Fits 394 f.room i
  line n f i e fits =
      let w = row_is n f e in
      let certificate : f.certificate + 394 ≡ f.room = rw (← w.is) (omega (arith, w.low)) in
      let handle : f.handle ≡ 255 = ap (λ (g : Figures). g.handle) (sym w.is) in
      record { reply = fits.0; certificate = omega (arith, certificate, fits.1); handle = omega (arith, handle, fits.2) }

  pub rows_serve : RowsServe sheet_of P
  rows_serve = record {
    own = λ n f e. ap (λ (g : Figures). g.room) (sym (row_is n f e).is);
    register = λ n f i e fits. (reply_serves P M).register f.room i (line n f i e fits);
    authenticate = λ n f i e fits. (reply_serves P M).authenticate f.room i (line n f i e fits);
    body = λ n f i g e fits lent.
        let same : f.body ≡ f.room = rw (← (row_is n f e).is) refl in
        omega (arith, same, (reply_serves P M).body f.room i g (line n f i e fits) lent);
    extended = λ n f limit m e most. let same : f.extended ≡ f.body + 2 = rw (← (row_is n f e).is) refl in inl (omega (arith, same, most));
    short = λ n f frame m e bytes taken few. let same : f.short ≡ 258 = rw (← (row_is n f e).is) refl in rw same (in_258 P M frame taken bytes few m);
    command = λ n f frame e bytes taken.
        let c = is_command (command_of frame) (Outcomes.command_said frame) (ap (λ (s : CommandSaid). s.answer) (sym (M.read_command frame)) ∙ taken) in
        (Datasheet.CommandColumn command_of takes_commands n f e).at_most (length frame) (record { frame = frame; bytes = bytes; which = c.0; is_taken = c.1; long = refl });
  }

pub data_sheet : (P : Panel) → Meets P → DataSheet P
data_sheet P M = record { serves = reply_serves P M; no_more = no_more_fits P M; responses = responses_served P M; rows = rows_serve P M }
