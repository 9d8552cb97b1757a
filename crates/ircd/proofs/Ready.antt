-- How serving ends: before `ready` is printed, while it is, or behind it.
use Rattle.std.proofs.Common.{◌≡◌, ◌∙◌, ℕ, Option, Result, Ok, Err, IsErrAnd, List, [], inl, inr}
use Rattle.std.proofs.Common.{refl, sym, subst}
use Rattle.std.specs.Io.KnownBytes.{Appends}
use Rattle.irc_sockets.specs.declared.mio_wire.MioWire.{MioWire}
use Rattle.irc_engine.specs.declared.engine.Engine.{Engine}
use Rattle.irc_engine.specs.EngineView.{EngineViewOf}
use Rattle.irc_journal.specs.Saying.{AreSomeSaid}
use Rattle.irc_endings.specs.declared.fault.Stop.{Stop}
use Rattle.irc_endings.specs.declared.fault.Stop.TheVariants.{Usage, BadScript, BadConfiguration}
use Rattle.irc_endings.specs.declared.fault.Stop.TheVariants.{Failed}
use Rattle.irc_settings.specs.declared.settings.Settings.{Settings}
use Rattle.ircd.specs.declared.setup.Setup.{Setup}
use Rattle.ircd.specs.Loops.Manners.{FindsManner}
use Rattle.ircd.specs.Loops.Turns.{AreNotServed, Begins, IsOfFile, IsOpenedBy, Opens, OpensBy}
use Rattle.ircd.specs.Loops.Turns.{ServesSettings, TakesTurns}
use Rattle.std.specs.declared.net.socket_addr.SocketAddr.{SocketAddr}
use Rattle.ircd.specs.ClosedDoors.{SaysClosed, SaysFault}
use Rattle.ircd.specs.Serving.{IsCutShort, IsFailed, IsNotServed, IsReadSettings, IsSetUp}
use Rattle.ircd.specs.Serving.{IsUnopened, IsUnset, ServesFile, ServesText}
use Rattle.ircd.specs.Serving.{Front, FrontTurns}
use Rattle.ircd.specs.Serving.IsCutShort.{printing, unopened, unprinted}
use Rattle.ircd.specs.Serving.IsFailed.{failed_opening, failed_serving}
use Rattle.ircd.specs.Serving.{bad_motd, bad_text, refused}
use Rattle.ircd.specs.Serving.IsUnopened.{clients_closed, links_closed, untold}
use Rattle.irc_sockets.specs.Listening.{IsFaultOf}
use Rattle.irc_sockets.specs.declared.listen_fault.ListenFault.{ListenFault}
use Rattle.irc_sockets.specs.declared.listen_fault.ListenFault.TheVariants.{Address, Memory, Other}
use Rattle.irc_endings.specs.Ready.{ready_text}
use Rattle.irc_endings.specs.Sinks.{Wrote, sink}
use Rattle.irc_endings.specs.ScriptLemmas.Sinking.{all_lost}

-- nothing written is a front
pub tells_nothing : (held : Option (List ℕ)) (text : List ℕ) → Wrote held held text
tells_nothing held text = all_lost (sink held []) text

-- nothing is said
nothing_said : (held : Option (List ℕ)) → AreSomeSaid held held
nothing_said held = ([], refl)

-- ---- why a text is not served

-- a text is no configuration
pub text_refused : (text : List ℕ) (stop : Stop) (held said : Option (List ℕ))
    → IsReadSettings text (Err stop) → IsNotServed text stop held held said said
text_refused text BadConfiguration held said bad = (bad_text bad, refl, refl)
text_refused text Failed held said bad = unprinted refl refl
text_refused text Usage held said bad = absurd bad
text_refused text (BadScript line) held said bad = absurd bad

-- its settings set nothing up
pub settings_refused : (settings : Settings) (stop : Stop) (held said : Option (List ℕ))
    → IsUnset settings stop → AreNotServed settings stop held held said said
settings_refused settings BadConfiguration held said unset =
    λ text read. (bad_text (refused settings read unset), refl, refl)
settings_refused settings Failed held said unset = λ text read. unprinted refl refl
settings_refused settings Usage held said unset = absurd unset
settings_refused settings (BadScript line) held said unset = absurd unset

-- a message of the day is named, and is not read
pub manner_unread : (settings : Settings) (setup : Setup) (stop : Stop)
    (held said : Option (List ℕ)) → IsSetUp settings setup → FindsManner setup (Err stop)
    → AreNotServed settings stop held held said said
manner_unread settings setup BadConfiguration held said is named = λ text read. (
  bad_motd setup (record { settings = settings; read = read; is_set_up = is }) named,
  refl,
  refl,
)
manner_unread settings setup Failed held said is named = λ text read. unprinted refl refl
manner_unread settings setup Usage held said is named = absurd named
manner_unread settings setup (BadScript line) held said is named = absurd named

-- `ready` is not printed, or a front of it
pub ready_cut : (settings : Settings) (engine : EngineViewOf MioWire Front)
    (held after said said_after : Option (List ℕ)) → IsOpenedBy settings engine
    → said_after ≡ said → Wrote held after ready_text
    → AreNotServed settings Failed held after said said_after
ready_cut settings engine held after said said_after is same tells =
    λ text read. printing is.setup (record {
      settings = settings;
      read = read;
      is_set_up = is.is_set_up;
    }) tells (subst (λ s. AreSomeSaid said s) (sym same) (nothing_said said))

-- nobody listens
pub unopened_by : (setup : Setup) (fault : ListenFault) (said said_after : Option (List ℕ))
    → IsFaultOf setup.listening fault → SaysFault fault said said_after
    → IsUnopened setup said said_after
unopened_by setup (Address address error) said said_after (inl at_clients) says = clients_closed
    (subst (λ (a : SocketAddr). SaysClosed a said said_after) at_clients says)
unopened_by setup (Address address error) said said_after (inr at_links) says =
    links_closed address at_links says
unopened_by setup (Other error) said said_after of says = untold says
unopened_by setup Memory said said_after of says = untold says

-- what is set up is open, or it is not
pub opened_by : {g : _} (settings : Settings) (setup : Setup)
    (r : Result (Engine MioWire Front g) Stop) (said said_after : Option (List ℕ))
    → IsSetUp settings setup → Opens setup r said said_after
    → OpensBy settings r said said_after
opened_by settings setup (Ok engine) said said_after is opens =
    (record { setup = setup; is_set_up = is; is_opened = opens.0 }, opens.1)
opened_by settings setup (Err stop) said said_after is opens =
    λ held text read. subst (λ s. IsNotServed text s held held said said_after) (sym opens.0)
    (unopened setup (record { settings = settings; read = read; is_set_up = is }) refl opens.1)

-- ---- where a call fails, what called it does

pub unopened_for : {g : _} (settings : Settings) (r : Result (Engine MioWire Front g) Stop)
    (stop : Stop) (said said_after : Option (List ℕ))
    → ((held : Option (List ℕ)) → AreNotServed settings stop held held said said_after)
    → IsErrAnd r (λ e. e ≡ stop) → OpensBy settings r said said_after
unopened_for settings (Ok engine) stop said said_after not failed = absurd failed
unopened_for settings (Err e) stop said said_after not failed =
    λ held text read. subst (λ s. IsNotServed text s held held said said_after) (sym failed)
    (not held text read)

pub unbegun : {g : _} (settings : Settings) (r : Result (Engine MioWire Front g) Stop)
    (stop : Stop) (held after said said_after : Option (List ℕ))
    → AreNotServed settings stop held after said said_after → IsErrAnd r (λ e. e ≡ stop)
    → Begins settings r held after said said_after
unbegun settings (Ok engine) stop held after said said_after not failed = absurd failed
unbegun settings (Err e) stop held after said said_after not failed =
    λ text read. subst (λ s. IsNotServed text s held after said said_after) (sym failed)
    (not text read)

pub unserved : (text : List ℕ) (turns : ℕ) (r : Result (Unit {0}) Stop) (stop : Stop)
    (held after said said_after : Option (List ℕ))
    → IsNotServed text stop held after said said_after → IsErrAnd r (λ e. e ≡ stop)
    → ServesText text turns r held after said said_after
unserved text turns (Ok _) stop held after said said_after not failed = absurd failed
unserved text turns (Err e) stop held after said said_after not failed =
    subst (λ s. IsNotServed text s held after said said_after) (sym failed) not

-- ---- what is open is served

-- turns are taken of it, behind `ready`
pub turns_served : (settings : Settings) (turns : ℕ) (first last : EngineViewOf MioWire Front)
    (held after said between said_after : Option (List ℕ)) (r : Result (Unit {0}) Stop)
    → IsOpenedBy settings first → Appends held after ready_text → Wrote held after ready_text
    → between ≡ said → TakesTurns settings first turns last between said_after r
    → ServesSettings settings turns r held after said said_after
turns_served settings turns first last held after said between said_after (Ok _) is whole tells
    same taken = λ text read. record {
      setup = is.setup;
      is_text_of = record { settings = settings; read = read; is_set_up = is.is_set_up };
      first = first;
      last = last;
      is_opened = is.is_opened;
      is_ready = whole;
      taken = subst (λ s. FrontTurns settings first s turns last said_after) same taken;
    }
turns_served settings turns first last held after said between said_after (Err stop) is whole
    tells same taken = λ text read.
    subst (λ s. IsNotServed text s held after said said_after) (sym taken.0)
    (printing is.setup (record {
      settings = settings;
      read = read;
      is_set_up = is.is_set_up;
    }) tells (subst (λ s. AreSomeSaid s said_after) same taken.1))

-- a file is not read
pub file_refused : (turns : ℕ) (r : Result (Unit {0}) Stop) (stop : Stop)
    (held said : Option (List ℕ)) → IsOfFile stop → IsErrAnd r (λ e. e ≡ stop)
    → ServesFile turns r held held said said
file_refused turns (Ok _) stop held said (inl is) failed = absurd failed
file_refused turns (Ok _) stop held said (inr is) failed = absurd failed
file_refused turns (Err e) stop held said (inl is) failed =
    subst (λ s. ServesFile turns (Err s) held held said said) (sym (failed ∙ is)) (refl, refl)
file_refused turns (Err e) stop held said (inr is) failed =
    subst (λ s. ServesFile turns (Err s) held held said said) (sym (failed ∙ is))
    (failed_serving (tells_nothing held ready_text) (nothing_said said))

-- nothing was printed, and nothing said
nothing_done : (held after said said_after : Option (List ℕ)) → after ≡ held → said_after ≡ said
    → IsFailed held after said said_after
nothing_done held after said said_after is same =
    failed_serving (subst (λ a. Wrote held a ready_text) (sym is) (tells_nothing held ready_text))
    (subst (λ a. AreSomeSaid said a) (sym same) (nothing_said said))

-- nothing was, since nobody listens
nobody_listens : (setup : Setup) (held after said said_after : Option (List ℕ)) → after ≡ held
    → IsUnopened setup said said_after → IsFailed held after said said_after
nobody_listens setup held after said said_after is (untold same) =
    nothing_done held after said said_after is same
nobody_listens setup held after said said_after is (clients_closed says) =
    failed_opening setup.listening.clients is says
nobody_listens setup held after said said_after is (links_closed address at_links says) =
    failed_opening address is says

-- what was printed and said where it is cut short
cut_short : (text : List ℕ) (held after said said_after : Option (List ℕ))
    → IsCutShort text held after said said_after → IsFailed held after said said_after
cut_short text held after said said_after (unprinted is same) =
    nothing_done held after said said_after is same
cut_short text held after said said_after (unopened setup set_up is none) =
    nobody_listens setup held after said said_after is none
cut_short text held after said said_after (printing setup is tells some) =
    failed_serving tells some

-- a file is served by the text that it holds
pub file_served : (text : List ℕ) (turns : ℕ) (r : Result (Unit {0}) Stop)
    (held after said said_after : Option (List ℕ))
    → ServesText text turns r held after said said_after
    → ServesFile turns r held after said said_after
file_served text turns (Ok _) held after said said_after served = (text, served)
file_served text turns (Err Failed) held after said said_after served =
    cut_short text held after said said_after served
file_served text turns (Err BadConfiguration) held after said said_after served =
    (served.1, served.2)
file_served text turns (Err Usage) held after said said_after served = absurd served
file_served text turns (Err (BadScript line)) held after said said_after served = absurd served
