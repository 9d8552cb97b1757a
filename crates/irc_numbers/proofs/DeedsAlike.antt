-- What a line of a link tells leaves servers that are alike so, and so does the loss of the link.
use Rattle.std.proofs.Common.{◌≡◌, ℕ, Bool, true, false, Option, Some, None, List, [], ◌∷◌, refl}
use Rattle.std.proofs.Common.{sym, ◌∙◌, ap, subst, if◌then◌else◌}
use Rattle.std.specs.FinMap.{get}
use Rattle.std.specs.Option.{option_map_or}
use Rattle.irc_names.specs.Spellings.{exactly_same}
use Rattle.irc_room.specs.After.{titled_by}
use Rattle.irc_room.specs.effect.Effect.{Effect}
use Rattle.irc_merge.specs.Deeds.{Deed, does, gains, loses, kills, brings, sets, tops, effects_of}
use Rattle.irc_merge.specs.Quits.{collision_text}
use Rattle.irc_burst.specs.DeedsMeant.{Told, a_deed, a_server}
use Rattle.irc_burst_lines.specs.DeedLines.{deed_parts}
use Rattle.irc_stage.specs.Ends.{End}
use Rattle.irc_routes.specs.Known.{names_behind}
use Rattle.irc_stage.specs.View.{View, without_end}
use Rattle.irc_stage.specs.EffectTold.{Served, all_changed, taken_out}
use Rattle.irc_stage.specs.Linked.{is_taken, told_on_all, unlinked, with_row}
use Rattle.irc_server.specs.DeedTold.{all_told, arrival_of, deed_told, deeds_told, forgotten}
use Rattle.irc_server.specs.DeedTold.{gain_told, link_lost, losses, lost_behind, titled_view}
use Rattle.irc_server.specs.DeedTold.{told_by}
use Rattle.irc_numbers.specs.Alike.{AreAlike, AreApart, Numbers}
use Rattle.irc_numbers.specs.ServedAlike.{AreArrivalsAlike, AreServedAlike, StaysAlike}
use Rattle.irc_numbers.proofs.Effects.{all_changed_alike, came_alike, end_at, known_of}
use Rattle.irc_numbers.proofs.Effects.{taken_out_alike, told_on_all_alike}
use Rattle.irc_numbers.proofs.EndsAlike.{closed_alike, housed, routed}
use Rattle.irc_numbers.proofs.KnownAlike.{names_same, parts_same, taken_same}
use Rattle.irc_numbers.proofs.RoutesChanged.{added_alike, less_alike, unlinked_alike}

-- the same is written of a deed
deed_written : (numbers : Numbers) (own other : View) → AreAlike numbers own other → (deed : Deed)
    → deed_parts other.room other.routes deed ≡ deed_parts own.room own.routes deed
deed_written numbers own other alike deed =
    ap (λ room. deed_parts room other.routes deed) alike.room
    ∙ parts_same numbers own.routes other.routes (known_of numbers own other alike) own.room deed

-- it does the same to the room
deed_effects : (numbers : Numbers) (own other : View) → AreAlike numbers own other → (deed : Deed)
    → effects_of other.room deed ≡ effects_of own.room deed
deed_effects numbers own other alike deed = ap (λ room. effects_of room deed) alike.room

module _ (numbers : Numbers) (apart : AreApart numbers) where
  -- ---- what is done to the views alone

  forgotten_alike : (name : List ℕ) → StaysAlike numbers (forgotten name) (forgotten name)
  forgotten_alike name own other alike = record {
    views = routed numbers own.state other.state alike.views _ _
        (less_alike numbers own.state.routes other.state.routes
        (known_of numbers own.state other.state alike.views) name);
    outs = alike.outs;
  }

  titled_alike : (channel : List ℕ) → StaysAlike numbers (titled_view channel) (titled_view channel)
  titled_alike channel own other alike = record {
    views = housed numbers own.state other.state alike.views _ _
        (ap (titled_by channel) alike.views.room);
    outs = alike.outs;
  }

  -- ---- a deed

  module _ (mine theirs : Option ℕ) (came : AreArrivalsAlike numbers mine theirs) where
    -- something is done, and its line goes on: the line and the effects are as they were before in
    -- both
    told_on : (deed : Deed) (serve : List Effect → Served → Served)
        → ((effects : List Effect) → StaysAlike numbers (serve effects) (serve effects))
        → StaysAlike numbers (λ s. told_on_all mine (deed_parts s.state.room s.state.routes deed)
        (serve (effects_of s.state.room deed) s))
        (λ s. told_on_all theirs (deed_parts s.state.room s.state.routes deed)
        (serve (effects_of s.state.room deed) s))
    told_on deed serve stays own other alike =
        let effects = effects_of own.state.room deed in
        subst
        (λ does_so. AreServedAlike numbers
        (told_on_all mine (deed_parts own.state.room own.state.routes deed) (serve effects own))
        (told_on_all theirs (deed_parts other.state.room other.state.routes deed)
        (serve does_so other)))
        (sym (deed_effects numbers own.state other.state alike.views deed))
        (told_on_all_alike numbers apart mine theirs came
        (deed_parts own.state.room own.state.routes
        deed) (deed_parts other.state.room other.state.routes deed)
        (deed_written numbers own.state other.state alike.views deed) (serve effects own)
        (serve effects other) (stays effects own other alike))

    pub deed_alike : (deed : Deed)
        → StaysAlike numbers (deed_told mine deed) (deed_told theirs deed)
    unfolding deed_told
    deed_alike (does effect) own other alike =
        came_alike numbers apart mine theirs came effect own other alike
    deed_alike (gains uplink name info) own other alike = alike
    deed_alike (loses server name text) own other alike =
        told_on (loses server name text) (λ effects s. forgotten name (all_changed effects s))
        (λ effects one another is. forgotten_alike name (all_changed effects one) (all_changed
        effects another) (all_changed_alike numbers apart effects one another is))
        own other alike
    deed_alike (kills server nick) own other alike =
        told_on (kills server nick) (λ effects s. taken_out nick collision_text s)
        (λ effects. taken_out_alike numbers apart nick collision_text) own other alike
    deed_alike (brings server channel members) own other alike =
        told_on (brings server channel members)
        (λ effects s. all_changed effects (titled_view channel s))
        (λ effects one another is.
        all_changed_alike numbers apart effects (titled_view channel one)
        (titled_view channel another) (titled_alike channel one another is))
        own other alike
    deed_alike (sets server channel changes) own other alike = told_on
        (sets server channel changes) all_changed (all_changed_alike numbers apart) own other alike
    deed_alike (tops server channel topic) own other alike = told_on
        (tops server channel topic) all_changed (all_changed_alike numbers apart) own other alike

    pub deeds_alike : (deeds : List Deed)
        → StaysAlike numbers (deeds_told mine deeds) (deeds_told theirs deeds)
    deeds_alike [] own other alike = alike
    deeds_alike (deed ∷ deeds) own other alike = deeds_alike deeds (deed_told mine deed own)
        (deed_told theirs deed other) (deed_alike deed own other alike)

  -- ---- what a line tells

  module _ (place conn : ℕ) (is_end : numbers.link place ≡ Some conn) where
    arrivals_alike : (own_name other_name : List ℕ) → other_name ≡ own_name
        → (deed : Deed) → AreArrivalsAlike numbers (arrival_of own_name conn deed)
        (arrival_of other_name place deed)
    arrivals_alike own_name other_name same (kills server nick) =
        subst (λ name. AreArrivalsAlike numbers (arrival_of own_name conn (kills server nick))
        (arrival_of name place (kills server nick))) (sym same)
        (by (exactly_same server own_name))
      where
        by : (b : Bool) → AreArrivalsAlike numbers (if b then None else Some conn)
            (if b then None else Some place)
        by true = tt
        by false = is_end
    arrivals_alike own_name other_name same (does effect) = is_end
    arrivals_alike own_name other_name same (gains uplink name info) = is_end
    arrivals_alike own_name other_name same (loses server name text) = is_end
    arrivals_alike own_name other_name same (brings server channel members) = is_end
    arrivals_alike own_name other_name same (sets server channel changes) = is_end
    arrivals_alike own_name other_name same (tops server channel topic) = is_end

    row_alike : (uplink name : List ℕ) (distance token : ℕ)
        (info : List ℕ) (own other : View) → AreAlike numbers own other
        → AreAlike numbers (with_row conn uplink name distance token info own)
        (with_row place uplink name distance token info other)
    row_alike uplink name distance token info own other alike =
        routed numbers own other alike _ _
        (added_alike numbers own.routes other.routes
        (known_of numbers own other alike) place conn is_end uplink name distance token info)

    gain_alike : (uplink name info : List ℕ)
        → StaysAlike numbers (gain_told conn uplink name info) (gain_told place uplink name info)
    gain_alike uplink name info = told_on (Some conn) (Some place) is_end (gains uplink name info)
        (λ effects s. s) (λ effects own other alike. alike)

    pub told_by_alike : (told : Told) → StaysAlike numbers (told_by conn told) (told_by place told)
    unfolding told_by
    told_by_alike (a_deed deed) own other alike =
        deed_alike (arrival_of own.state.routes.name conn deed)
        (arrival_of other.state.routes.name place deed)
        (arrivals_alike own.state.routes.name other.state.routes.name alike.views.name deed)
        deed own
        other alike
    told_by_alike (a_server uplink name distance token info) own other alike =
        by (is_taken own.state.routes conn name token)
        (is_taken other.state.routes place name token)
        (taken_same numbers own.state.routes other.state.routes
        (known_of numbers own.state other.state alike.views) apart place conn is_end name token)
      where
        more : ℕ → Served → Served
        more link s = record s { state = with_row link uplink name distance token info s.state }

        by : (a b : Bool) → b ≡ a → AreServedAlike numbers
            (if a then gain_told conn uplink name info (more conn own) else own)
            (if b then gain_told place uplink name info (more place other) else other)
        by true true same =
            gain_alike uplink name info (more conn own) (more place other)
            (record {
              views = row_alike uplink name distance token info own.state other.state
                  alike.views;
              outs = alike.outs;
            })
        by false false same = alike
        by true false same = cc same
        by false true same = cc same

    pub all_told_alike : (told : List Told)
        → StaysAlike numbers (all_told conn told) (all_told place told)
    all_told_alike [] own other alike = alike
    all_told_alike (told ∷ later) own other alike =
        all_told_alike later (told_by conn told own) (told_by place told other)
        (told_by_alike told own other alike)

    -- ---- the link is lost

    lost_same : (own other : View) → AreAlike numbers own other
        → lost_behind other place (get other.ends place) ≡ lost_behind own conn (get own.ends conn)
    lost_same own other alike =
        ap (lost_behind other place) (end_at numbers own other alike place conn is_end)
        ∙ by (get own.ends conn)
      where
        met : (far : Option (List ℕ)) → option_map_or
            (λ name. losses other.routes.name name (names_behind other.routes place)) far []
            ≡ option_map_or
            (λ name. losses own.routes.name name (names_behind own.routes conn)) far []
        met None = refl
        met (Some far) =
            ap (λ name. losses name far (names_behind other.routes place)) alike.name
            ∙ ap (losses own.routes.name far) (names_same numbers own.routes other.routes
            (known_of numbers own other alike) apart place conn is_end)

        by : (o : Option End) → lost_behind other place o ≡ lost_behind own conn o
        by None = refl
        by (Some end) = met end.far

    unlinked_view : (own other : View) → AreAlike numbers own other
        → AreAlike numbers (unlinked conn own) (unlinked place other)
    unlinked_view own other alike =
        routed numbers (without_end conn own) (without_end place other)
        (closed_alike numbers own other alike apart place conn is_end) _ _
        (unlinked_alike numbers own.routes other.routes
        (known_of numbers own other alike) apart place conn is_end)

    pub lost_alike : StaysAlike numbers (link_lost conn) (link_lost place)
    lost_alike own other alike =
        let mine =
        deeds_told (Some conn) (lost_behind own.state conn (get own.state.ends conn)) own in
        let theirs = deeds_told (Some place)
        (lost_behind other.state place (get other.state.ends place)) other in
        let left : AreServedAlike numbers mine theirs =
        subst (λ deeds. AreServedAlike numbers mine (deeds_told (Some place) deeds other))
        (sym (lost_same own.state other.state alike.views))
        (deeds_alike (Some conn) (Some place) is_end
        (lost_behind own.state conn (get own.state.ends conn)) own other alike)
        in
        record { views = unlinked_view mine.state theirs.state left.views; outs = left.outs }
