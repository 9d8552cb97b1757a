-- The server of a layer is told to set what a line says.
use Rattle.std.proofs.Common.{◌≡◌, ℕ, Option, Some, Result, Ok, Err, List, [], refl, sym}
use Rattle.std.proofs.Common.{◌∙◌, ◌++◌, subst, false, OnOk}
use Rattle.irc_line.specs.Reading.{read_of}
use Rattle.irc_batch.specs.Batches.{Sent}
use Rattle.irc_stage.specs.View.{View}
use Rattle.irc_server.specs.declared.event.Event.TheVariants.{LinkLine}
use Rattle.irc_server.specs.declared.event.ServerFault.{ServerFault}
use Rattle.irc_server.specs.Connected.{AreConnectedBehind, WhoIsConnectedBehind}
use Rattle.irc_server.specs.LinesThatSet.{has_failed, refuses_it, set_by, takes_it, wants_memory}
use Rattle.irc_server.specs.LinesThatSet.{IsSetBy}
use Rattle.irc_server.specs.Served.{link_says}
use Rattle.irc_engine.specs.Machines.{is_out_of_memory, AreConnectedBy, IsConnectedBy}
use Rattle.irc_engine.specs.Machines.{IsStillConnected}
use Rattle.irc_layer.specs.Layers.{by_setting, not_open, sets, Sets, State}
use Rattle.irc_layer.specs.Putting.{all_put, ends_behind_all}
use Rattle.irc_engine.specs.Lemmas.Stills.{nobody_goes}
use Rattle.irc_layer.proofs.Connecting.{connected_put, still_by_line}

-- ---- who is connected

as_put_out : (view : View) (link : ℕ) (line : List ℕ)
    → AreConnectedBehind view link (read_of line) (set_by view link line)
    → AreConnectedBy view (link_says link (read_of line)) (set_by view link line).out
    (set_by view link line).state
as_put_out view link line after = record {
  clients = after.clients;
  links = after.links;
  clients_were_there = after.clients_were_there;
  links_were_there = after.links_were_there;
}

one_view : (a b : View) → Some a ≡ Some b → a ≡ b
one_view a b same = cc same

pub set_connects : WhoIsConnectedBehind → (server after : Option View) (link : ℕ)
    (line : List ℕ) (before outs : List Sent)
    → IsSetBy server link line before (Ok tt) after outs
    → IsConnectedBy server (LinkLine link (record { items = line })) before after outs
set_connects law server after link line before outs
    (takes_it {old = view} {new = view_after} none does) = record {
      outs = (set_by view link line).out;
      after_is = does.out_is;
      connected = λ behind is. (
        view,
        refl,
        subst (λ (v : View). AreConnectedBy view (link_says link (read_of line))
            (set_by view link line).out v)
            (sym does.view_is ∙ one_view view_after behind is)
            (as_put_out view link line (law view link (read_of line))),
      );
    }

-- ---- it is set

module _ (link : ℕ) (line : List ℕ) (old new : State) (held outs : List Sent)
    (none_held : held ≡ [])
    (set : IsSetBy old.layer.server link line held (Ok tt) new.layer.server outs) where
  abbrev from_none : IsSetBy old.layer.server link line [] (Ok tt) new.layer.server outs
  from_none = subst (λ (h : List Sent).
      IsSetBy old.layer.server link line h (Ok tt) new.layer.server outs) none_held set

  pub set_so : new.layer.ends ≡ ends_behind_all (by_setting link) outs old.layer.ends
      → new.layer.plain ≡ old.layer.plain
      → new.outs ≡ old.outs ++ all_put (by_setting link) outs old.layer.ends
      → Sets link line old new
  set_so ends plain put = sets (record {
    outs = outs;
    is_set = from_none;
    ends_are = ends;
    plain_is = plain;
    outs_are = put;
  })

  still_set : WhoIsConnectedBehind
      → new.outs ≡ old.outs ++ all_put (by_setting link) outs old.layer.ends
      → IsStillConnected old.layer.server old.outs new.layer.server new.outs
  still_set law put =
      still_by_line link (record { items = line }) old.layer.server new.layer.server old.outs
      new.outs (connected_put (LinkLine link (record { items = line })) (by_setting link)
      old.layer.ends old.layer.server new.layer.server outs old.outs new.outs
      (set_connects law old.layer.server new.layer.server link line [] outs from_none) put)

  pub still_if_ok : {E : Type 0} (r : Result (Unit {0}) E) → WhoIsConnectedBehind
      → OnOk r (new.outs ≡ old.outs ++ all_put (by_setting link) outs old.layer.ends)
      → OnOk r (IsStillConnected old.layer.server old.outs new.layer.server new.outs)
  still_if_ok (Ok _) law put = still_set law put
  still_if_ok (Err fault) law put = tt

-- ---- it is not: the link is not open

same_server : (server after : Option View) (link : ℕ) (line : List ℕ) (fault : ServerFault)
    (outs : List Sent) → is_out_of_memory fault ≡ false
    → IsSetBy server link line [] (Err fault) after outs → (after ≡ server) × (outs ≡ [])
same_server server after link line fault outs other (refuses_it is) = (refl, refl)
same_server server after link line fault outs other (wants_memory none) = cc other
same_server server after link line fault outs other has_failed = cc other

module _ (link : ℕ) (line : List ℕ) (old : State) (after : Option View) (fault : ServerFault)
    (held outs : List Sent) (none_held : held ≡ []) (other : is_out_of_memory fault ≡ false)
    (refused : IsSetBy old.layer.server link line held (Err fault) after outs) where
  abbrev from_nothing : IsSetBy old.layer.server link line [] (Err fault) after outs
  from_nothing = subst (λ (h : List Sent).
      IsSetBy old.layer.server link line h (Err fault) after outs) none_held refused

  abbrev so : (after ≡ old.layer.server) × (outs ≡ [])
  so = same_server old.layer.server after link line fault outs other from_nothing

  pub not_set : Sets link line old (record old { layer = record old.layer { server = after } })
  not_set = not_open fault other
      (subst (λ (s : Option View). IsSetBy old.layer.server link line [] (Err fault) s []) so.0
      (subst (λ (o : List Sent). IsSetBy old.layer.server link line [] (Err fault) after o) so.1
      from_nothing))
      (λ i. record old { layer = record old.layer { server = so.0 i } })

  pub still_there : IsStillConnected old.layer.server old.outs after old.outs
  still_there = subst (λ (s : Option View).
      IsStillConnected old.layer.server old.outs s old.outs) (sym so.0)
      (nobody_goes old.layer.server old.outs)
