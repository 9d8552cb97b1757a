-- What each event does, from what the functions below do.
use Rattle.std.proofs.Common.{◌≡◌, ℕ, Option, Some, None, Result, Ok, Err, IsErrAnd, List, ◌++◌}
use Rattle.std.proofs.Common.{refl, sym, ◌∙◌, ap, subst, option_map}
use Rattle.std.specs.Borrow.{Bor}
use Rattle.std.specs.FinMap.{get}
use Rattle.std.specs.Option.{option_copied}
use Rattle.std.proofs.lemmas.Option.{same_Some}
use Rattle.arrayvec.specs.ArrayVec.{ArrayVec}
use Rattle.irc_line.specs.Messages.{Parsed}
use Rattle.irc_line.specs.MessageViews.{optional_now}
use Rattle.irc_line.specs.Reading.{read_of}
use Rattle.irc_channels.specs.Texts.{cut_words}
use Rattle.irc_users.specs.declared.user.User.{User}
use Rattle.irc_room.specs.Room.{IsWellFormed}
use Rattle.irc_routes.specs.Known.{place_of}
use Rattle.irc_acts.specs.declared.act.Act.{Act}
use Rattle.irc_commands.specs.declared.pending.Registration.{Registration}
use Rattle.irc_commands.specs.RegisteringViews.{registered_of}
use Rattle.irc_commands.specs.Decide.{decide}
use Rattle.irc_stage.specs.declared.clients.Client.{Client}
use Rattle.irc_stage.specs.declared.clients.Client.TheVariants.{Registering, Registered}
use Rattle.irc_server.specs.declared.event.Event.{Event}
use Rattle.irc_server.specs.declared.event.Event.TheVariants.{Connect, Gone, LinkUp, LinkLine}
use Rattle.irc_server.specs.declared.event.Event.TheVariants.{LinkDown}
use Rattle.irc_server.specs.declared.event.Event.TheVariants.{Line as TheLine}
use Rattle.irc_batch.specs.Batches.{Sent}
use Rattle.irc_server.specs.declared.event.ServerFault.{ServerFault}
use Rattle.irc_server.specs.declared.event.ServerFault.TheVariants.{Memory, Failed}
use Rattle.irc_stage.specs.RoomMachine.{RoomMachine, client_of}
use Rattle.irc_stage.specs.View.{End, View, machine_of}
use Rattle.irc_stage.specs.declared.origin.Speaker.{Speaker}
use Rattle.irc_stage.specs.ClientTold.{client_told, closed_told, decision_told, given_told}
use Rattle.irc_stage.specs.ClientTold.{gone_told, line_told, seated, steps_told, user_told}
use Rattle.irc_stage.specs.EffectTold.{Served, in_silence}
use Rattle.irc_stage.specs.Handle.{fresh, user_of, lost_text}
use Rattle.irc_stage.specs.Loops.Handling.{seated_in}
use Rattle.irc_server.specs.DeedTold.{link_lost}
use Rattle.irc_server.specs.LinkServed.{line_served, link_opened}
use Rattle.irc_server.specs.ReadEvents.{read_event_of, IsHandled, takes_it, refuses_it}
use Rattle.irc_server.specs.ReadEvents.{wants_memory, has_failed}
use Rattle.irc_server.specs.Loops.Acting.{given_view, nick_of}
use Rattle.irc_server.specs.Served.{link_there, served, there, fault_of, AreMatched, IsDueAt}
use Rattle.irc_server.specs.Served.{ServedStaysMatched}
use Rattle.irc_stage.specs.Matched.{IsMatched}
use Rattle.irc_stage.specs.Lemmas.Matching.{spelled_row}

pub decided_by_name : (view : View) (conn : ℕ) (o : Option User) (name : List ℕ) (message : Parsed)
    → option_map (λ (user : User). user.nick) o ≡ Some name
    → decision_told conn (Some name) (decide view.room (place_of view.routes) name message)
    (in_silence view) ≡ user_told view conn o message
decided_by_name view conn None name message is = cc is
decided_by_name view conn (Some user) name message is =
    ap (λ n. decision_told conn (Some n) (decide view.room (place_of view.routes) n message)
    (in_silence view)) (sym (same_Some (user.nick) name is))

pub lost_is_whole : cut_words lost_text ≡ lost_text
unfolding cut_words
lost_is_whole = refl

-- who has given something before registration is seated
pub given_seat : (view : View) (conn : ℕ) (client given : Client) (before new : Served)
    → new ≡ seated_in conn client before → before ≡ in_silence view → client ≡ given
    → new ≡ in_silence (seated conn given view)
given_seat view conn client given before new sits silent is =
    sits ∙ ap (seated_in conn client) silent
    ∙ ap (λ (it : Client). in_silence (seated conn it view)) is

copied_now : (o : Option (Bor (List ℕ))) → optional_now o ≡ option_copied o
copied_now None = refl
copied_now (Some bytes) = refl

-- what it has given is carried out
pub given_done : (view : View) (conn : ℕ) (speaker : Speaker) (nick : Option (Bor (List ℕ)))
    (given : Registration) (acts : List Act) (before done : Served)
    → speaker ≡ record { conn = conn; nick = nick } → option_copied nick ≡ given.pending.nick
    → acts ≡ given.steps.items → before ≡ in_silence (given_view view conn given)
    → done ≡ closed_told given.close speaker.conn
    (steps_told speaker.conn (optional_now speaker.nick) acts before)
    → done ≡ given_told conn (registered_of given) view
given_done view conn speaker nick given acts before done speaker_is nick_is acts_are sits is =
    is
    ∙ ap (λ (who : Speaker). closed_told given.close who.conn
    (steps_told who.conn (optional_now who.nick) acts before)) speaker_is
    ∙ ap (λ name. closed_told given.close conn (steps_told conn name acts before))
    (copied_now nick ∙ nick_is)
    ∙ ap (λ (steps : List Act). closed_told given.close conn
    (steps_told conn given.pending.nick steps before)) acts_are
    ∙ ap (λ (s : Served). closed_told given.close conn
    (steps_told conn given.pending.nick given.steps.items s)) sits

-- what each kind of event does, as it is served

pub connected_by : (view : View) (event : Event) (conn conn' : ℕ) (host host' : List ℕ)
    (done : Served) → event ≡ Connect conn host → conn' ≡ conn → host' ≡ host
    → done ≡ in_silence (seated conn' (fresh host') view) → done ≡ served view (read_event_of event)
unfolding served client_told
connected_by view event conn conn' host host' done event_is conn_is host_is is =
    is ∙ ap (λ n. in_silence (seated n (fresh host') view)) conn_is
    ∙ ap (λ h. in_silence (seated conn (fresh h) view)) host_is
    ∙ ap (λ (e : Event). served view (read_event_of e)) (sym event_is)

pub said_by : (view : View) (event : Event) (conn conn' : ℕ) (line : ArrayVec ℕ) (done : Served)
    → event ≡ TheLine conn line → conn' ≡ conn → done ≡ line_told view conn' (read_of line.items)
    → done ≡ served view (read_event_of event)
unfolding served client_told
said_by view event conn conn' line done event_is conn_is is =
    is ∙ ap (λ n. line_told view n (read_of line.items)) conn_is
    ∙ ap (λ (e : Event). served view (read_event_of e)) (sym event_is)

pub gone_by : (view : View) (event : Event) (conn conn' : ℕ) (done : Served)
    → event ≡ Gone conn → conn' ≡ conn → done ≡ gone_told view conn'
    → done ≡ served view (read_event_of event)
unfolding served client_told
gone_by view event conn conn' done event_is conn_is is =
    is ∙ ap (gone_told view) conn_is
    ∙ ap (λ (e : Event). served view (read_event_of e)) (sym event_is)

pub opened_by : (view : View) (event : Event) (link link' : ℕ) (starts starts' : Option (List ℕ))
    (done : Served) → event ≡ LinkUp link starts → link' ≡ link → starts' ≡ starts
    → done ≡ link_opened view link' starts' → done ≡ served view (read_event_of event)
unfolding served
opened_by view event link link' starts starts' done event_is link_is starts_is is =
    is ∙ ap (λ n. link_opened view n starts') link_is ∙ ap (link_opened view link) starts_is
    ∙ ap (λ (e : Event). served view (read_event_of e)) (sym event_is)

pub heard_by : (view : View) (event : Event) (link link' : ℕ) (line : ArrayVec ℕ) (bytes : List ℕ)
    (done : Served) → event ≡ LinkLine link line → link' ≡ link → bytes ≡ line.items
    → done ≡ line_served view link' (read_of bytes) (get view.ends link')
    → done ≡ served view (read_event_of event)
unfolding served
heard_by view event link link' line bytes done event_is link_is bytes_are is =
    is ∙ ap (λ n. line_served view n (read_of bytes) (get view.ends n)) link_is
    ∙ ap (λ b. line_served view link (read_of b) (get view.ends link)) bytes_are
    ∙ ap (λ (e : Event). served view (read_event_of e)) (sym event_is)

pub lost_by : (view : View) (event : Event) (link link' : ℕ) (begun done : Served)
    → event ≡ LinkDown link → link' ≡ link → begun ≡ in_silence view
    → done ≡ link_lost link' begun → done ≡ served view (read_event_of event)
unfolding served
lost_by view event link link' begun done event_is link_is silent is =
    is ∙ ap (λ n. link_lost n begun) link_is ∙ ap (link_lost link) silent
    ∙ ap (λ (e : Event). served view (read_event_of e)) (sym event_is)

-- who a connection is

pub user_is : (machine : RoomMachine) → IsMatched machine → (conn : ℕ) (client : Client)
    → client_of machine conn ≡ Some client → user_of machine.room (Some client) ≡ nick_of client
user_is machine matched conn (Registering pending) is = refl
user_is machine matched conn (Registered nick) is = spelled_row machine matched conn nick is

-- where no fault is owed what happens is due
nobody_there : (client : Option Client) → there client ≡ None → client ≡ None
nobody_there None is = refl
nobody_there (Some client) is = cc is

no_end_there : (end : Option End) → link_there end ≡ None → end ≡ None
no_end_there None is = refl
no_end_there (Some end) is = cc is

pub not_connected : (view : View) (event : Event) (conn : ℕ) (host : List ℕ)
    → event ≡ Connect conn host → fault_of view event ≡ None → get view.clients conn ≡ None
not_connected view event conn host is owed =
    nobody_there (get view.clients conn) (ap (fault_of view) (sym is) ∙ owed)

pub not_open : (view : View) (event : Event) (link : ℕ) (starts : Option (List ℕ))
    → event ≡ LinkUp link starts → fault_of view event ≡ None → get view.ends link ≡ None
not_open view event link starts is owed =
    no_end_there (get view.ends link) (ap (fault_of view) (sym is) ∙ owed)

due_by : (view : View) (event : Event) → fault_of view event ≡ None
    → IsDueAt view (read_event_of event)
due_by view (Connect conn host) owed = nobody_there (client_of (machine_of view) conn) owed
due_by view (TheLine conn line) owed = tt
due_by view (Gone conn) owed = tt
due_by view (LinkUp link starts) owed = tt
due_by view (LinkLine link line) owed = tt
due_by view (LinkDown link) owed = tt

-- whatever is served, clients and users are matched then
pub matched_after : ServedStaysMatched → (view : View) (event : Event) (done : Served)
    → AreMatched view → IsWellFormed view.room → fault_of view event ≡ None
    → done ≡ served view (read_event_of event) → AreMatched done.state
matched_after stays view event done matched well owed is =
    subst (λ (s : Served). AreMatched s.state) (sym is)
    (stays view matched well (read_event_of event) (due_by view event owed))

-- what comes of each way out of `handle`

-- what is taken out of a server is what it was
pub kept_view : (now : Option View) (view kept : View) → now ≡ Some view → now ≡ Some kept
    → kept ≡ view
kept_view now view kept is taken_is = same_Some kept view (sym taken_is ∙ is)

pub failed_stays : (now new : Option View) (event : Event) (out : List Sent) → now ≡ None
    → new ≡ None → IsHandled now event out (Err Failed) new out
failed_stays now new event out is gone =
    subst (λ (v : Option View). IsHandled v event out (Err Failed) new out) (sym is)
    (subst (λ (v : Option View). IsHandled None event out (Err Failed) v out) (sym gone) has_failed)

pub refused : (now new : Option View) (view : View) (event : Event) (out : List Sent)
    (fault : ServerFault) → now ≡ Some view → fault_of view event ≡ Some fault → new ≡ Some view
    → IsHandled now event out (Err fault) new out
refused now new view event out fault now_is owed new_is =
    subst (λ (v : Option View). IsHandled v event out (Err fault) new out) (sym now_is)
    (subst (λ (v : Option View). IsHandled (Some view) event out (Err fault) v out) (sym new_is)
    (refuses_it owed))

pub ran_out : (now new : Option View) (view : View) (event : Event) (out out_after : List Sent)
    (result : Result (Unit {0}) ServerFault) → now ≡ Some view → fault_of view event ≡ None
    → IsErrAnd result (λ fault. fault ≡ Memory) → new ≡ None → out_after ≡ out
    → IsHandled now event out result new out_after
ran_out now new view event out out_after (Ok done) now_is owed wants gone same = absurd wants
ran_out now new view event out out_after (Err fault) now_is owed wants gone same =
    subst (λ (v : Option View). IsHandled v event out (Err fault) new out_after) (sym now_is)
    (subst (λ (f : ServerFault). IsHandled (Some view) event out (Err f) new out_after) (sym wants)
    (subst (λ (v : Option View). IsHandled (Some view) event out (Err Memory) v out_after)
    (sym gone)
    (subst (λ o. IsHandled (Some view) event out (Err Memory) None o) (sym same)
    (wants_memory owed))))

pub taken : (now new : Option View) (view after : View) (event : Event)
    (done : Served) (out out_after : List Sent) → now ≡ Some view → fault_of view event ≡ None
    → done ≡ served view (read_event_of event) → after ≡ done.state → new ≡ Some after
    → out_after ≡ out ++ done.out → IsHandled now event out (Ok tt) new out_after
taken now new view after event done out out_after now_is owed is after_is new_is appended =
    subst (λ (v : Option View). IsHandled v event out (Ok tt) new out_after) (sym now_is)
    (subst (λ (v : Option View). IsHandled (Some view) event out (Ok tt) v out_after) (sym new_is)
    (takes_it owed (record {
      view_is = after_is ∙ ap (λ (s : Served). s.state) is;
      out_is = appended ∙ ap (λ (s : Served). out ++ s.out) is;
    })))
