-- What a layer around a server has to promise of who is connected by a line of a link: where it
-- gives its server nothing for it, where it gives it several lines, and where it closes the link.
use Rattle.std.proofs.Common.{◌≡◌, ℕ, Bool, true, false, not, ◌&&◌, ◌||◌, nat_eq, Option, Some}
use Rattle.std.proofs.Common.{List, [], ◌∷◌, ◌++◌, refl, sym, ◌∙◌, ap, append_assoc}
use Rattle.std.proofs.lemmas.Bool.{eqb-true}
use Rattle.std.proofs.lemmas.List.Folds.{list_any-append}
use Rattle.std.proofs.Math.Bool.{or-false}
use Rattle.arrayvec.specs.ArrayVec.{ArrayVec}
use Rattle.irc_batch.specs.declared.close_reason.CloseReason.{CloseReason}
use Rattle.irc_batch.specs.Batches.{Sent, end_of_link}
use Rattle.irc_stage.specs.View.{View}
use Rattle.irc_server.specs.declared.event.Event.TheVariants.{LinkLine, LinkDown}
use Rattle.irc_server.specs.Connected.{ends_client, ends_link, has_client, has_link}
use Rattle.irc_server.specs.Connected.{is_client_ended, is_link_ended}
use Rattle.irc_server.specs.ReadEvents.{read_event_of}
use Rattle.irc_engine.specs.Machines.{AreConnectedBy, IsConnectedBy}
use Rattle.irc_engine.specs.Lemmas.Stills.{connected_on, event_by_still, nobody_goes}
use Rattle.irc_engine.specs.Lemmas.Stills.{still_by_event}

-- ---- booleans

pub shut_by : (a t x : Bool)
    → ((a || false) && not (t || x)) ≡ ((a || false) && not (x || (t || false)))
shut_by a true true = refl
shut_by a true false = refl
shut_by a false true = refl
shut_by a false false = refl

as_ended : (a x : Bool) → ((a || false) && not x) ≡ ((a || false) && not (x || false))
as_ended a true = refl
as_ended a false = refl

pub ended_as : (x t : Bool) → (x || (t || false)) ≡ true → (t ≡ false → x ≡ true)
ended_as true t ended none = refl
ended_as false true ended none = cc none
ended_as false false ended none = cc ended

-- ---- one line of a link

module _ (link : ℕ) (line : ArrayVec ℕ) where
  -- the server is given nothing, and nothing is put out
  pub connected_without : (server : Option View) (before : List Sent)
      → IsConnectedBy server (LinkLine link line) before server before
  connected_without server before =
      event_by_still (LinkLine link line) (λ q. refl) (λ q. refl) (λ q. refl) (λ q. refl) server
      server before before (nobody_goes server before)

  -- it is given one line, and then another
  pub connected_twice : (next : ArrayVec ℕ) (server between after : Option View)
      (before mid end : List Sent) → IsConnectedBy server (LinkLine link line) before between mid
      → IsConnectedBy between (LinkLine link next) mid after end
      → IsConnectedBy server (LinkLine link line) before after end
  connected_twice next server between after before mid end one other =
      event_by_still (LinkLine link line) (λ q. refl) (λ q. refl) (λ q. refl) (λ q. refl) server
      after before end (connected_on server between after before mid end
      (still_by_event (LinkLine link line) (λ q. refl) (λ q. refl) (λ q. refl) (λ q. refl) server
      between before mid one)
      (still_by_event (LinkLine link next) (λ q. refl) (λ q. refl) (λ q. refl) (λ q. refl) between
      after mid end other))

  shut : (reason : CloseReason) (was new : View) (x : List Sent) → has_link was link ≡ true
      → AreConnectedBy was (read_event_of (LinkDown link)) x new
      → AreConnectedBy was (read_event_of (LinkLine link line))
      (x ++ end_of_link link reason ∷ []) new
  shut reason was new x there down = record {
    clients = λ q. down.clients q ∙ as_ended (has_client was q) (is_client_ended q x)
        ∙ ap (λ t. (has_client was q || false) && not t)
        (sym (list_any-append (ends_client q) x (end_of_link link reason ∷ [])));
    links = λ q. down.links q ∙ shut_by (has_link was q) (nat_eq link q) (is_link_ended q x)
        ∙ ap (λ t. (has_link was q || false) && not t)
        (sym (list_any-append (ends_link q) x (end_of_link link reason ∷ [])));
    clients_were_there = λ q ended. down.clients_were_there q
        (sym (or-false (is_client_ended q x))
        ∙ sym (list_any-append (ends_client q) x (end_of_link link reason ∷ [])) ∙ ended);
    links_were_there = λ q ended. by q (nat_eq link q) refl
        (sym (list_any-append (ends_link q) x (end_of_link link reason ∷ [])) ∙ ended);
  }
    where
      by : (q : ℕ) (t : Bool) → nat_eq link q ≡ t
          → (is_link_ended q x || (nat_eq link q || false)) ≡ true
          → (has_link was q || false) ≡ true
      by q true one ended = or-false (has_link was q)
          ∙ ap (λ p. has_link was p) (sym (eqb-true link q one)) ∙ there
      by q false two ended = down.links_were_there q
          (ended_as (is_link_ended q x) (nat_eq link q) ended two)

  -- it is told that the link is lost, which the layer closes behind that
  pub connected_shut : (reason : CloseReason) (server after : Option View) (before mid : List Sent)
      → ((was : View) → server ≡ Some was → has_link was link ≡ true)
      → IsConnectedBy server (LinkDown link) before after mid
      → IsConnectedBy server (LinkLine link line) before after (mid ++ end_of_link link reason ∷ [])
  connected_shut reason server after before mid there down = record {
    outs = down.outs ++ end_of_link link reason ∷ [];
    after_is = ap (λ os. os ++ end_of_link link reason ∷ []) down.after_is
        ∙ append_assoc before down.outs (end_of_link link reason ∷ []);
    connected = λ behind is.
        let was = down.connected behind is in
        (was.0, was.1, shut reason was.0 behind down.outs (there was.0 was.1) was.2);
  }
