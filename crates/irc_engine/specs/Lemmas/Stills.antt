-- Who is still connected, of a machine that does one thing after another: where nothing happens,
-- where two steps follow each other, where what closes nobody is put out, and by an event by which
-- nobody comes or goes.
use Rattle.std.proofs.Common.{◌≡◌, ℕ, Bool, true, false, not, ◌&&◌, ◌||◌, Option}
use Rattle.std.proofs.Common.{List, [], ◌++◌, refl, sym, ◌∙◌, ap, append_assoc, append-nil}
use Rattle.std.proofs.Common.{subst, IfErr, IsErrAnd, OnOk, Result, Ok, Err}
use Rattle.std.proofs.lemmas.List.Folds.{list_any-append}
use Rattle.std.proofs.Math.Bool.{or-false, and-true}
use Rattle.irc_names.specs.Lemmas.PlainFacts.{and_neither}
use Rattle.irc_batch.specs.Batches.{Sent}
use Rattle.irc_stage.specs.View.{View}
use Rattle.irc_server.specs.declared.event.Event.{Event}
use Rattle.irc_server.specs.declared.event.ServerFault.{ServerFault}
use Rattle.irc_server.specs.declared.event.ServerFault.TheVariants.{Memory}
use Rattle.irc_server.specs.Connected.{client_comes, client_goes, ends_client, ends_link}
use Rattle.irc_server.specs.Connected.{has_client, has_link, is_client_ended, is_link_ended}
use Rattle.irc_server.specs.Connected.{is_there_after, link_comes, link_goes}
use Rattle.irc_server.specs.ReadEvents.{read_event_of}
use Rattle.irc_engine.specs.Machines.{runs_out_now, AreConnectedBy, AreStillConnected}
use Rattle.irc_engine.specs.Machines.{IsConnectedBy, IsRefusal, IsStillConnected}

-- ---- booleans

there_plain : (a x : Bool) → ((a || false) && not x) ≡ (a && not x)
there_plain true x = refl
there_plain false x = refl

was_before : (a x y m : Bool) → m ≡ (a && not x) → (x ≡ true → a ≡ true)
    → (y ≡ true → m ≡ true) → (x || y) ≡ true → a ≡ true
was_before true x y m is one other ended = refl
was_before false true y m is one other ended = one refl
was_before false false true m is one other ended = cc (sym is ∙ other refl)
was_before false false false m is one other ended = cc ended

-- ---- nothing is put out, or more and more

pub nobody_goes : (server : Option View) (outs : List Sent)
    → IsStillConnected server outs server outs
nobody_goes server outs = record {
  outs = [];
  after_is = sym (append-nil outs);
  connected = λ behind is. (
    behind,
    is,
    record {
      clients = λ conn. sym (and-true (has_client behind conn));
      links = λ q. sym (and-true (has_link behind q));
      clients_were_there = λ conn ended. cc ended;
      links_were_there = λ q ended. cc ended;
    },
  );
}

still_twice : (was mid new : View) (x y : List Sent) → AreStillConnected was x mid
    → AreStillConnected mid y new → AreStillConnected was (x ++ y) new
still_twice was mid new x y one other = record {
  clients = λ q. other.clients q
      ∙ ap (λ t. t && not (is_client_ended q y)) (one.clients q)
      ∙ and_neither (has_client was q) (is_client_ended q x) (is_client_ended q y)
      ∙ ap (λ t. has_client was q && not t) (sym (list_any-append (ends_client q) x y));
  links = λ q. other.links q
      ∙ ap (λ t. t && not (is_link_ended q y)) (one.links q)
      ∙ and_neither (has_link was q) (is_link_ended q x) (is_link_ended q y)
      ∙ ap (λ t. has_link was q && not t) (sym (list_any-append (ends_link q) x y));
  clients_were_there = λ q ended. was_before (has_client was q) (is_client_ended q x)
      (is_client_ended q y) (has_client mid q) (one.clients q) (one.clients_were_there q)
      (other.clients_were_there q) (sym (list_any-append (ends_client q) x y) ∙ ended);
  links_were_there = λ q ended. was_before (has_link was q) (is_link_ended q x)
      (is_link_ended q y) (has_link mid q) (one.links q) (one.links_were_there q)
      (other.links_were_there q) (sym (list_any-append (ends_link q) x y) ∙ ended);
}

pub connected_on : (server between after : Option View) (before mid end : List Sent)
    → IsStillConnected server before between mid → IsStillConnected between mid after end
    → IsStillConnected server before after end
connected_on server between after before mid end one other = record {
  outs = one.outs ++ other.outs;
  after_is = other.after_is ∙ ap (λ os. os ++ other.outs) one.after_is
      ∙ append_assoc before one.outs other.outs;
  connected = λ behind is.
      let then = other.connected behind is in
      let first = one.connected then.0 then.1 in (
        first.0,
        first.1,
        still_twice first.0 then.0 behind one.outs other.outs first.2 then.2,
      );
}

-- the same, where the second may fail
pub connected_if_ok : {E : Type 0} (server between after : Option View) (before mid end : List Sent)
    (r : Result (Unit {0}) E) → IsStillConnected server before between mid
    → OnOk r (IsStillConnected between mid after end)
    → OnOk r (IsStillConnected server before after end)
connected_if_ok server between after before mid end (Ok _) one other =
    connected_on server between after before mid end one other
connected_if_ok server between after before mid end (Err e) one other = tt

-- what closes nobody is put out
quiet_more : (server : View) (more : List Sent)
    → ((q : ℕ) → is_client_ended q more ≡ false) → ((q : ℕ) → is_link_ended q more ≡ false)
    → AreStillConnected server more server
quiet_more server more no_client no_link = record {
  clients = λ q. sym (and-true (has_client server q))
      ∙ ap (λ t. has_client server q && not t) (sym (no_client q));
  links = λ q. sym (and-true (has_link server q))
      ∙ ap (λ t. has_link server q && not t) (sym (no_link q));
  clients_were_there = λ q ended. cc (sym (no_client q) ∙ ended);
  links_were_there = λ q ended. cc (sym (no_link q) ∙ ended);
}

pub nobody_goes_by : (server : Option View) (before more after : List Sent)
    → ((q : ℕ) → is_client_ended q more ≡ false) → ((q : ℕ) → is_link_ended q more ≡ false)
    → after ≡ before ++ more → IsStillConnected server before server after
nobody_goes_by server before more after no_client no_link is = record {
  outs = more;
  after_is = is;
  connected = λ behind is_behind. (behind, is_behind, quiet_more behind more no_client no_link);
}

-- ---- by an event by which nobody comes or goes

module _ (event : Event) (no_comer : (q : ℕ) → client_comes q (read_event_of event) ≡ false)
    (no_leaver : (q : ℕ) → client_goes q (read_event_of event) ≡ false)
    (none_begins : (q : ℕ) → link_comes q (read_event_of event) ≡ false)
    (none_ends : (q : ℕ) → link_goes q (read_event_of event) ≡ false) where
  clients_by : (was : View) (x : List Sent) (q : ℕ)
      → is_there_after (has_client was q) (client_comes q (read_event_of event))
      (client_goes q (read_event_of event)) (is_client_ended q x)
      ≡ (has_client was q && not (is_client_ended q x))
  clients_by was x q =
      (λ i. is_there_after (has_client was q) (no_comer q i) (no_leaver q i) (is_client_ended q x))
      ∙ there_plain (has_client was q) (is_client_ended q x)

  links_by : (was : View) (x : List Sent) (q : ℕ)
      → is_there_after (has_link was q) (link_comes q (read_event_of event))
      (link_goes q (read_event_of event)) (is_link_ended q x)
      ≡ (has_link was q && not (is_link_ended q x))
  links_by was x q =
      (λ i. is_there_after (has_link was q) (none_begins q i) (none_ends q i) (is_link_ended q x))
      ∙ there_plain (has_link was q) (is_link_ended q x)

  no_other_link : (was : View) (q : ℕ)
      → (has_link was q || link_comes q (read_event_of event)) ≡ has_link was q
  no_other_link was q =
      ap (λ t. has_link was q || t) (none_begins q) ∙ or-false (has_link was q)

  still_by : (was new : View) (x : List Sent) → AreConnectedBy was (read_event_of event) x new
      → AreStillConnected was x new
  still_by was new x by = record {
    clients = λ q. by.clients q ∙ clients_by was x q;
    links = λ q. by.links q ∙ links_by was x q;
    clients_were_there = by.clients_were_there;
    links_were_there = λ q ended. sym (no_other_link was q) ∙ by.links_were_there q ended;
  }

  pub still_by_event : (server after : Option View) (before end : List Sent)
      → IsConnectedBy server event before after end
      → IsStillConnected server before after end
  still_by_event server after before end by = record {
    outs = by.outs;
    after_is = by.after_is;
    connected = λ behind is.
        let was = by.connected behind is in
        (was.0, was.1, still_by was.0 behind by.outs was.2);
  }

  by_still : (was new : View) (x : List Sent) → AreStillConnected was x new
      → AreConnectedBy was (read_event_of event) x new
  by_still was new x by = record {
    clients = λ q. by.clients q ∙ sym (clients_by was x q);
    links = λ q. by.links q ∙ sym (links_by was x q);
    clients_were_there = by.clients_were_there;
    links_were_there = λ q ended. no_other_link was q ∙ by.links_were_there q ended;
  }

  pub event_by_still : (server after : Option View) (before end : List Sent)
      → IsStillConnected server before after end
      → IsConnectedBy server event before after end
  event_by_still server after before end by = record {
    outs = by.outs;
    after_is = by.after_is;
    connected = λ behind is.
        let was = by.connected behind is in
        (was.0, was.1, by_still was.0 behind by.outs was.2);
  }

-- ---- want of memory

pub memory_owed : (server : Option View) (event : Event) (r : Result (Unit {0}) ServerFault)
    → IsErrAnd r (λ fault. fault ≡ Memory) → IfErr r (IsRefusal server event)
memory_owed server event (Ok _) failed = tt
memory_owed server event (Err fault) failed =
    subst (λ f. IsRefusal server event f) (sym failed) runs_out_now
