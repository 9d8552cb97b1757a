-- What comes of a configuration that is read again.
use Rattle.std.proofs.Common.{◌≡◌, ℕ, Option, List, ◌∷◌, length, refl, sym, subst}
use Rattle.std.proofs.lemmas.List.{nil_from_length}
use Rattle.std.specs.Prelude.{⊤}
use Rattle.irc_sockets.specs.declared.mio_wire.MioWire.{MioWire}
use Rattle.irc_sockets.specs.declared.limits.Limits.{Limits}
use Rattle.irc_engine.specs.Altering.{IsAltered}
use Rattle.irc_engine.specs.EngineView.{EngineViewOf}
use Rattle.irc_journal.specs.Rereadings.{rereading_line}
use Rattle.irc_journal.specs.Saying.{IsFrontSaid}
use Rattle.irc_journal.specs.declared.rereading.Rereading.TheVariants.{Taken}
use Rattle.irc_settings.specs.declared.fixed.FixedKey.{FixedKey}
use Rattle.irc_settings.specs.declared.settings.Settings.{Settings}
use Rattle.irc_settings.specs.Fixed.{differs_at, fixed_keys, key_name}
use Rattle.ircd.specs.declared.rereading.Change.{Change}
use Rattle.ircd.specs.Loops.Rereading.{AreOfSomeText, IsChangeOf}
use Rattle.ircd.specs.Serving.{front_server, AreRestartsSaid, Changes, Front, IsRestartSaid}
use Rattle.ircd.specs.Serving.{Rereads, reread}

-- it is taken, and then said which keys wait
pub read_anew : (first now : Settings) (old new : EngineViewOf MioWire Front)
    (held between after : Option (List ℕ)) (change : Change) (keys : List FixedKey)
    → AreOfSomeText now → IsChangeOf now first.client_room change
    → IsAltered (λ wire calls. ⊤) front_server (Changes change.limits change.motd) old new
    → IsFrontSaid (rereading_line Taken) held between → keys ≡ fixed_keys
    → AreRestartsSaid keys first now between after → Rereads first old held new after
read_anew first now old new held between after change keys of is altered said all restarts =
    reread of.0 is.setup (record { settings = now; read = of.1; is_set_up = is.is_set_up }) new
    between after (record {
      motd = change.motd;
      has_motd = is.has_motd;
      altered = subst (λ (limits : Limits).
          IsAltered (λ wire calls. ⊤) front_server (Changes limits change.motd) old new)
          is.limits_are altered;
    }) said
    (subst (λ (ks : List FixedKey). AreRestartsSaid ks first now between after) all restarts)

-- ---- which keys wait

-- whatever is said of the keys that are left makes what is said of all
abbrev pub Leads : Settings → Settings → List FixedKey → Option (List ℕ) → List FixedKey
    → Option (List ℕ) → Type 0
Leads first now rest so_far all held = (after : Option (List ℕ))
    → AreRestartsSaid rest first now so_far after → AreRestartsSaid all first now held after

pub leads_on : (first now : Settings) (rest : List FixedKey) (so_far : Option (List ℕ))
    (all : List FixedKey) (held : Option (List ℕ)) (key : FixedKey) (more : List FixedKey)
    (then : Option (List ℕ)) → rest ≡ key ∷ more
    → IsRestartSaid (differs_at key first now) (key_name key) so_far then
    → Leads first now rest so_far all held → Leads first now more then all held
leads_on first now rest so_far all held key more then is said leads after others =
    leads after (subst (λ (keys : List FixedKey). AreRestartsSaid keys first now so_far after)
    (sym is) (then, said, others))

pub leads_none : (first now : Settings) (rest : List FixedKey) (so_far : Option (List ℕ))
    (all : List FixedKey) (held : Option (List ℕ)) → length rest ≡ 0
    → Leads first now rest so_far all held → AreRestartsSaid all first now held so_far
leads_none first now rest so_far all held is leads = leads so_far
    (subst (λ (keys : List FixedKey). AreRestartsSaid keys first now so_far so_far)
    (sym (nil_from_length rest is)) refl)
