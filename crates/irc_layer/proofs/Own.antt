-- The layer puts out lines of its own on a link.
use Rattle.std.proofs.Common.{◌≡◌, ◌++◌, ℕ, Bool, false, Option, List, map, ◌∙◌, ap}
use Rattle.std.proofs.Common.{OnOk, Result, Ok, Err, refl}
use Rattle.std.specs.List.{list_any}
use Rattle.irc_batch.specs.Batches.{Sent, line_on}
use Rattle.irc_stage.specs.View.{View}
use Rattle.irc_server.specs.Connected.{ends_client, ends_link}
use Rattle.irc_engine.specs.Machines.{IsStillConnected}
use Rattle.irc_layer.specs.Ends.{Ends}
use Rattle.irc_layer.specs.declared.end.Cause.{Cause}
use Rattle.irc_layer.specs.Layers.{puts_out, State}
use Rattle.irc_layer.specs.Putting.{all_put, ends_behind_all}
use Rattle.irc_engine.specs.Lemmas.Stills.{nobody_goes_by}
use Rattle.irc_layer.proofs.Kept.{all_kept, lines_fail}

module _ (cause : Cause) (link : ℕ) (lines : List (List ℕ)) (old : State) (held : List Sent)
    (are : held ≡ map (line_on link) lines) where
  -- they are put out
  pub puts_if_ok : {E : Type 0} (r : Result (Unit {0}) E) (ends : Ends) (outs : List Sent)
      → OnOk r (outs ≡ old.outs ++ all_put cause held old.layer.ends)
      → OnOk r (ends ≡ ends_behind_all cause held old.layer.ends)
      → OnOk r (record { layer = record old.layer { ends = ends }; outs = outs }
      ≡ puts_out cause link lines old)
  puts_if_ok (Ok _) ends outs put behind = λ i. record {
    layer = record old.layer {
      ends = (behind ∙ ap (λ h. ends_behind_all cause h old.layer.ends) are) i;
    };
    outs = (put ∙ ap (λ h. old.outs ++ all_put cause h old.layer.ends) are) i;
  }
  puts_if_ok (Err e) ends outs put behind = tt

  none_ends : (test : Sent → Bool)
      → ((link : ℕ) (line : List ℕ) → test (line_on link line) ≡ false)
      → list_any test (all_put cause held old.layer.ends) ≡ false
  none_ends test none = all_kept test none cause held old.layer.ends
      ∙ ap (list_any test) are ∙ lines_fail test none link lines

  -- and nobody goes by them
  pub still_if_put : {E : Type 0} (r : Result (Unit {0}) E) (server : Option View)
      (outs : List Sent) → OnOk r (outs ≡ old.outs ++ all_put cause held old.layer.ends)
      → OnOk r (IsStillConnected server old.outs server outs)
  still_if_put (Ok _) server outs put =
      nobody_goes_by server old.outs (all_put cause held old.layer.ends) outs
      (λ q. none_ends (ends_client q) (λ l x. refl)) (λ q. none_ends (ends_link q) (λ l x. refl))
      put
  still_if_put (Err e) server outs put = tt
