-- The configurations of a script's servers, one more each time.
use Rattle.std.proofs.Common.{◌≡◌, ℕ, ◌+◌, ◌<◌, Option, Some, None, List, [], ◌∷◌, ◌++◌, length}
use Rattle.std.proofs.Common.{take, get_or, ap, sym, subst, refl, ◌∙◌}
use Rattle.std.specs.List.{AllByRecursion, cons_option, filter_map}
use Rattle.std.specs.Option.{option_to_list}
use Rattle.std.proofs.lemmas.List.{map-append, take_more}
use Rattle.std.proofs.lemmas.List.Elements.{filter_map-append}
use Rattle.irc_net.specs.Making.{config_name}
use Rattle.irc_relay.specs.Links.{Name}
use Rattle.irc_net.specs.config.Config.{Config}
use Rattle.irc_script.specs.Loops.Configs.{AreConfigured, IsConfigured, IsOwnConfig}

found_alone : {X : Type 0} (found : Option X) → cons_option found [] ≡ option_to_list found
found_alone None = refl
found_alone (Some x) = refl

-- one more name, and what it gives
pub one_name_more : {X : Type 0} (f : Name → Option X) (names : List Name) (i : ℕ) (d : Name)
    → i < length names → d ≡ get_or names i d
    → filter_map f (take (i + 1) names) ≡ filter_map f (take i names) ++ option_to_list (f d)
one_name_more f names i d within is =
    ap (filter_map f) (take_more names i d within)
    ∙ filter_map-append f (take i names) (get_or names i d ∷ [])
    ∙ ap (λ found. filter_map f (take i names) ++ found) (found_alone (f (get_or names i d))
    ∙ ap (λ n. option_to_list (f n)) (sym is))

pub none_configured : (names : List Name) → AreConfigured names [] []
none_configured names = record { named = refl; each = tt }

all_and : {X : Type 0} (P : X → Type 0) (xs : List X) (x : X) → AllByRecursion P xs → P x
    → AllByRecursion P (xs ++ x ∷ [])
all_and P [] x all one = (one, tt)
all_and P (y ∷ xs) x all one = (all.0, all_and P xs x all.1 one)

own_config : (names : List Name) (server : Name) (config : Config)
    → IsConfigured names server config → IsOwnConfig names config
own_config names server config is = subst (λ n. IsConfigured names n config) (sym is.name) is

-- one configuration more
pub one_configured : (names : List Name) (configs : List Config)
    (config : Config) (i : ℕ) (d : Name) → i < length names → d ≡ get_or names i d
    → AreConfigured names (take i names) configs → IsConfigured names d config
    → AreConfigured names (take (i + 1) names) (configs ++ config ∷ [])
one_configured names configs config i d within is are one = record {
  named = map-append config_name configs (config ∷ []) ∙ ap (λ ns. ns
      ++ config_name config ∷ []) are.named ∙ ap (λ n. take i names ++ n ∷ []) (one.name ∙ is)
      ∙ sym (take_more names i d within);
  each = all_and (IsOwnConfig names) configs config are.each (own_config names d config one);
}
