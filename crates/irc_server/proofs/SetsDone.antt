-- What comes of asking a server for a line by which a server sets, from what the functions below
-- do.
use Rattle.std.proofs.Common.{◌≡◌, ℕ, Option, Some, None, Result, Ok, Err, IsErrAnd, List, ◌++◌}
use Rattle.std.proofs.Common.{sym, ◌∙◌, ap, subst}
use Rattle.std.specs.FinMap.{get}
use Rattle.std.proofs.lemmas.Option.{same_Some}
use Rattle.irc_line.specs.Reading.{read_of}
use Rattle.irc_batch.specs.Batches.{Sent}
use Rattle.irc_stage.specs.View.{View}
use Rattle.irc_stage.specs.EffectTold.{Served}
use Rattle.irc_server.specs.declared.event.ServerFault.{ServerFault}
use Rattle.irc_server.specs.declared.event.ServerFault.TheVariants.{Memory, Failed}
use Rattle.irc_server.specs.LinesThatSet.{IsSetBy, has_failed, line_set, refuses_it, takes_it}
use Rattle.irc_server.specs.LinesThatSet.{wants_memory}
use Rattle.irc_server.specs.Loops.Settings.{fault_at}

pub refused_at : (now : Option View) (link : ℕ) (line : List ℕ) (out : List Sent)
    (fault : ServerFault) → fault_at now link ≡ Some fault
    → IsSetBy now link line out (Err fault) now out
refused_at None link line out fault owed =
    subst (λ (f : ServerFault). IsSetBy None link line out (Err f) None out)
    (same_Some Failed fault owed) has_failed
refused_at (Some view) link line out fault owed = refuses_it owed

pub memory_out : (now new : Option View) (link : ℕ) (line : List ℕ) (out out_after : List Sent)
    (result : Result (Unit {0}) ServerFault) → fault_at now link ≡ None
    → IsErrAnd result (λ fault. fault ≡ Memory) → new ≡ None → out_after ≡ out
    → IsSetBy now link line out result new out_after
memory_out now new link line out out_after (Ok done) owed wants gone same = absurd wants
memory_out None new link line out out_after (Err fault) owed wants gone same = cc owed
memory_out (Some view) new link line out out_after (Err fault) owed wants gone same =
    subst (λ (f : ServerFault). IsSetBy (Some view) link line out (Err f) new out_after)
    (sym wants)
    (subst (λ (v : Option View). IsSetBy (Some view) link line out (Err Memory) v out_after)
    (sym gone)
    (subst (λ o. IsSetBy (Some view) link line out (Err Memory) None o) (sym same)
    (wants_memory owed)))

pub all_set : (now new : Option View) (view after : View) (link number : ℕ)
    (line bytes : List ℕ) (done : Served) (out out_after : List Sent) → now ≡ Some view
    → fault_at now link ≡ None → number ≡ link → bytes ≡ line
    → done ≡ line_set view number (read_of bytes) (get view.ends number) → after ≡ done.state
    → new ≡ Some after → out_after ≡ out ++ done.out
    → IsSetBy now link line out (Ok tt) new out_after
all_set now new view after link number line bytes done out out_after now_is owed link_is bytes_are
    is after_is new_is appended =
    let set = is ∙ ap (λ n. line_set view n (read_of bytes) (get view.ends n)) link_is
    ∙ ap (λ b. line_set view link (read_of b) (get view.ends link)) bytes_are in
    subst (λ (v : Option View). IsSetBy v link line out (Ok tt) new out_after) (sym now_is)
    (subst (λ (v : Option View). IsSetBy (Some view) link line out (Ok tt) v out_after)
    (sym new_is)
    (takes_it (ap (λ (v : Option View). fault_at v link) (sym now_is) ∙ owed) (record {
      view_is = after_is ∙ ap (λ (s : Served). s.state) set;
      out_is = appended ∙ ap (λ (s : Served). out ++ s.out) set;
    })))
