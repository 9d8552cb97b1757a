-- Steps by which no link's end is read: with items, and without any.
use Rattle.std.proofs.Common.{◌≡◌, ℕ, true, false, Some, List, [], ◌++◌, sym, ◌∙◌, ap, subst}
use Rattle.irc_line.specs.Laws.{PiecesCompleteTheSame}
use Rattle.irc_outbox.specs.Calls.{Call}
use Rattle.irc_relay.specs.Links.{Name}
use Rattle.irc_world.specs.Stepping.{Item}
use Rattle.irc_server.specs.LineEnds.{ServedLinesEnd}
use Rattle.irc_server.specs.Own.{ServedGoesToItsOwn}
use Rattle.irc_network.specs.Network.{node_at}
use Rattle.irc_pipes.specs.Lemmas.StillPipes.{still_is_new}
use Rattle.irc_pipes.specs.Pipes.{LinkPipe, new_pipe}
use Rattle.irc_network.specs.ByteNetwork.{ByteNetwork}
use Rattle.irc_daemons.specs.Alike.{ServedAlike}
use Rattle.irc_daemons.specs.AsBytes.{IsServerIf, numbers_at}
use Rattle.irc_daemons.specs.AsNetwork.{HasFollowed, IsAsNetwork}
use Rattle.irc_daemons.specs.Clients.{ClientsStay}
use Rattle.irc_daemons.specs.Daemons.{AreLinksOpen, Daemons, IsToldOfLinks, end_at, unsent}
use Rattle.irc_daemons.specs.Daemons.{pipe_between}
use Rattle.irc_daemons.specs.Doings.{taken_at}
use Rattle.irc_daemons.specs.EachStep.{AreFollowed, ArePlaced, ReadsLink}
use Rattle.irc_daemons.specs.Items.{AreItems, IsApartStep, IsQuiet, has_item}
use Rattle.irc_daemons.specs.Steps.{Steps}
use Rattle.irc_daemons.proofs.Asked.{AllStill}
use Rattle.irc_daemons.proofs.Assembly.{followed, part, start, taken_is, mid_moment}
use Rattle.irc_daemons.proofs.Lists.{front_none}
use Rattle.irc_daemons.proofs.Open.{StreamLinesAreCarried}
use Rattle.irc_daemons.proofs.Single.{HasServer, has_server}
use Rattle.irc_daemons.proofs.Turn.{came_of}

module _ {W : Type 0} (is_after : W → List Call → Type 0) (pieces : PiecesCompleteTheSame)
    (lines_end : ServedLinesEnd) (own_law : ServedGoesToItsOwn)
    (stay : ClientsStay) (alike_law : ServedAlike) (carried : StreamLinesAreCarried)
    (names : List Name) (place : ℕ) (items : List Item)
    (old new : Daemons W) (net : ByteNetwork) (step : Steps is_after place old new)
    (links : AreLinksOpen new)
    (items_are : AreItems names new place step.did.events items) (apart : IsApartStep step)
    (told_of_links : IsToldOfLinks old place)
    (placed : ArePlaced names net) (same : IsAsNetwork names old net)
  where
    here : HasServer (numbers_at old place) step.engine (node_at net.network place)
    here =
        has_server (numbers_at old place) step.engine (node_at net.network place)
        (subst (λ o. IsServerIf (numbers_at old place) o (node_at net.network place)) step.at
        (same.as_bytes.servers place))

    abbrev came : ℕ → List ℕ
    came q = (part is_after pieces names place old new step same.are_joined.not_itself
        same.clients_open here.of.in_order here.of.framers).came q

    unread_followed : ((y q : ℕ) → old.ends place y ≡ Some q → came q ≡ [])
        → (has_item step.did.events ≡ true → AllStill net) → HasFollowed names items net new
    unread_followed unread quiet =
        followed is_after pieces names place old new step same.are_joined.not_itself
        same.clients_open here.of.in_order here.of.framers lines_end own_law stay alike_law
        carried items net links items_are apart told_of_links same placed unread quiet

    -- where all is quiet nothing is read
    still_between : IsQuiet old → (x y : ℕ) → pipe_between old x y ≡ new_pipe
    still_between quiet x y = still_is_new (pipe_between old x y) (quiet x y)

    nothing_read : IsQuiet old → (y q : ℕ) → old.ends place y ≡ Some q → came q ≡ []
    nothing_read quiet y q is =
        sym (taken_is is_after pieces names place old new step same.are_joined.not_itself
        same.clients_open here.of.in_order here.of.framers q)
        ∙ front_none (taken_at (Some q) step.did.calls) (new.transit y place)
        (ap (λ o. taken_at o step.did.calls ++ new.transit y place) (sym is) ∙ sym (step.reads y)
        ∙ front_none (old.transit y place) (unsent (end_at old y place))
        (ap (λ (w : LinkPipe). w.bytes) (still_between quiet y place)))

    pub items_followed : has_item step.did.events ≡ true → HasFollowed names items net new
    items_followed some =
        unread_followed (nothing_read (apart.quiet some))
        (λ is x y. same.as_bytes.pipes x y ∙ still_between (apart.quiet some) x y)

    pub nothing_followed : (¬ (ReadsLink step)) → has_item step.did.events ≡ false
        → HasFollowed names items net new
    nothing_followed no_link none =
        unread_followed
        (λ y q is.
        came_of is_after step.engine.sizes step.turn.report
        (start is_after pieces names place old new step same.are_joined.not_itself same.clients_open
        here.of.in_order here.of.framers)
        (mid_moment is_after pieces names place old new step same.are_joined.not_itself
        same.clients_open here.of.in_order here.of.framers) step.turn.does.answers q
        (λ report. no_link (record { from = y; conn = q; is_end = is; is_read = report })))
        (λ is. cc (sym none ∙ is))

module _ {W : Type 0} (is_after : W → List Call → Type 0) (pieces : PiecesCompleteTheSame)
    (lines_end : ServedLinesEnd) (own_law : ServedGoesToItsOwn)
    (stay : ClientsStay) (alike_law : ServedAlike) (carried : StreamLinesAreCarried)
  where
    pub with_items : AreFollowed is_after (λ place old new step. has_item step.did.events ≡ true)
    with_items names place items old new net step some links items_are apart told placed same =
        items_followed is_after pieces lines_end own_law stay alike_law carried names place items
        old new net step links items_are apart told placed same some

    pub by_nobody : AreFollowed is_after (λ place old new step. (¬ (ReadsLink step))
        × (has_item step.did.events ≡ false))
    by_nobody names place items old new net step nobody links items_are apart told placed same =
        nothing_followed is_after pieces lines_end own_law stay alike_law carried names place items
        old new net step links items_are apart told placed same nobody.0
        nobody.1
