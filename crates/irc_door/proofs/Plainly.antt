-- Where nothing is asked for, what is put out is what the machine puts out.
use Rattle.std.proofs.Common.{◌≡◌, ℕ, true, false, is_some, ◌&&◌, Option, Some, None, Result, Ok}
use Rattle.std.proofs.Common.{Err, OnOk}
use Rattle.std.proofs.Common.{List, [], ◌∷◌, ◌++◌, is_none, option_map, refl, sym, ◌∙◌, ap}
use Rattle.irc_batch.specs.Batches.{Sent, end_of, end_of_link, line_on, line_to}
use Rattle.irc_door.specs.declared.manner.Manner.{Manner}
use Rattle.irc_routes.specs.declared.programs.Programs.{Programs}
use Rattle.irc_routes.specs.declared.programs.Programs.TheVariants.{Off, On}
use Rattle.irc_door.specs.declared.motd.Motd.{Motd}
use Rattle.irc_server.specs.declared.event.Event.{Event}
use Rattle.irc_door.specs.Capabilities.{asked_of, Asked}
use Rattle.irc_door.specs.Doors.{said, said_by, to_client, IsPlainly}
use Rattle.irc_door.specs.Manners.{is_off, is_plain, written_with}

written_plainly : (programs : Programs) (motd : Option Motd)
    → (is_off programs && is_none motd) ≡ true → (line : List ℕ)
    → written_with programs motd line ≡ line ∷ []
written_plainly Off None plain line = refl
written_plainly Off (Some motd) plain line = cc plain
written_plainly On motd plain line = cc plain

one_plainly : (manner : Manner) → is_plain manner ≡ true → (sent : Sent)
    → said manner None sent ≡ sent ∷ []
one_plainly manner plain (line_to conn line) =
    ap (to_client conn) (written_plainly manner.programs manner.motd plain line)
one_plainly manner plain (end_of conn) = refl
one_plainly manner plain (line_on link line) = refl
one_plainly manner plain (end_of_link link reason) = refl

all_plainly : (manner : Manner) → is_plain manner ≡ true → (outs : List Sent)
    → said_by manner None outs ≡ outs
all_plainly manner plain [] = refl
all_plainly manner plain (sent ∷ outs) =
    λ i. one_plainly manner plain sent i ++ all_plainly manner plain outs i

-- then no line is asked of
none_asked : (programs : Programs) (motd : Option Motd)
    → (is_off programs && is_none motd) ≡ true → (event : Event) → asked_of programs event ≡ None
none_asked Off motd plain event = refl
none_asked On motd plain event = cc plain

pub is_plainly : IsPlainly
is_plainly manner plain event outs =
    ap (λ asked. said_by manner asked outs) (none_asked manner.programs manner.motd plain event)
    ∙ all_plainly manner plain outs

pub appended_plainly : {E : Type 0} (manner : Manner) (asked : Option Asked)
    (r : Result (Unit {0}) E) (held before after : List Sent) → is_plain manner ≡ true
    → asked ≡ None → OnOk r (after ≡ before ++ held)
    → OnOk r (after ≡ before ++ said_by manner asked held)
appended_plainly manner asked (Ok _) held before after plain none put =
    put ∙ ap (λ outs. before ++ outs) (sym (all_plainly manner plain held)
    ∙ ap (λ some. said_by manner some held) (sym none))
appended_plainly manner asked (Err _) held before after plain none put = tt

pub none_of : {A B : Type 0} (f : A → B) (some : Option A) → is_some some ≡ false
    → option_map f some ≡ None
none_of f (Some x) none = cc none
none_of f None none = refl
