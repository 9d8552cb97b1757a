-- Of configurations without a fault each is named, and there are few.
use Rattle.std.proofs.Common.{◌≡◌, ◌≤◌, Bool, true, false, ◌&&◌, ◌||◌, not, Option, Some, None}
use Rattle.std.proofs.Common.{List, [], ◌∷◌, refl, sym, ◌∙◌, subst, length, nat_lt, if◌then◌else◌}
use Rattle.std.specs.List.{AllByRecursion, list_all, list_any}
use Rattle.std.specs.List.Sorted.{IsPermutation}
use Rattle.std.proofs.lemmas.List.Sorted.{length_permutation, list_any-IsPermutation}
use borrow.Author.Tests.{ltb-false}
use Rattle.irc_names.specs.Names.{is_server}
use Rattle.irc_routes.specs.About.{about_of}
use Rattle.irc_server.specs.Configuring.{has_double, is_about, is_among, is_peer}
use Rattle.irc_server.specs.declared.config.Config.{Config}
use Rattle.irc_server.specs.declared.config.ConfigFault.TheVariants as one
use Rattle.irc_net.specs.declared.making.NetConfigFault.{NetConfigFault}
use Rattle.irc_net.specs.declared.making.NetConfigFault.TheVariants.{BadName, DoubleName, TooMany}
use Rattle.irc_net.specs.Making.{configs_fault, has_name_twice, is_bad_config, is_bad_name}
use Rattle.irc_net.specs.Making.{is_double}
use Rattle.irc_net.specs.Loops.Ordering.{IsServerConfig}

-- ---- one configuration

own_name : (a b c twice : Bool) → is_bad_name (if not ((a && b) && c) then Some one.BadName
    else (if twice then Some one.DoubleName else None)) ≡ false → a ≡ true
own_name true b c twice good = refl
own_name false b c twice good = cc good

named : (config : Config) → is_bad_config config ≡ false → IsServerConfig config
named config good =
    own_name (is_server config.own.name.items) (is_about (about_of config.own))
    (list_all is_peer config.peers.items)
    (is_among config.own.name.items config.peers.items || has_double config.peers.items) good

-- ---- all of them

pub all_named : (configs : List Config) → list_any is_bad_config configs ≡ false
    → AllByRecursion IsServerConfig configs
all_named [] good = tt
all_named (config ∷ configs) good = by (is_bad_config config) refl (all_named configs) good
  where
    by : (b : Bool) → is_bad_config config ≡ b → (list_any is_bad_config configs ≡ false
        → AllByRecursion IsServerConfig configs) → (b || list_any is_bad_config configs) ≡ false
        → AllByRecursion IsServerConfig (config ∷ configs)
    by true bad others left = cc left
    by false fine others left = (named config fine, others left)

abbrev fault_by : Bool → Bool → Bool → Option NetConfigFault
fault_by bad twice many = if bad then Some BadName
    else (if twice then Some DoubleName else (if many then Some TooMany else None))

-- no cause of a fault is there
pub record AreNone (bad double twice many : Bool) : Type 0 where
  pub bad_none : bad ≡ false
  pub twice_none : twice ≡ false
  pub many_none : many ≡ false

none_then : (bad double twice many : Bool) → fault_by bad (double || twice) many ≡ None
    → AreNone bad double twice many
none_then true double twice many none = cc none
none_then false true twice many none = cc none
none_then false false true many none = cc none
none_then false false false true none = cc none
none_then false false false false none =
    record { bad_none = refl; twice_none = refl; many_none = refl }

pub without_fault : (configs : List Config) → configs_fault configs ≡ None
    → AreNone (list_any is_bad_config configs) (list_any is_double configs) (has_name_twice configs)
    (nat_lt 256 (length configs))
without_fault configs none = none_then (list_any is_bad_config configs) (list_any is_double configs)
    (has_name_twice configs) (nat_lt 256 (length configs)) none

pub ordered_named : (configs ordered : List Config) → configs_fault configs ≡ None
    → IsPermutation configs ordered → AllByRecursion IsServerConfig ordered
ordered_named configs ordered none same =
    all_named ordered (sym (list_any-IsPermutation is_bad_config configs ordered same)
    ∙ (without_fault configs none).bad_none)

pub ordered_few : (configs ordered : List Config) → configs_fault configs ≡ None
    → IsPermutation configs ordered → length ordered ≤ 256
ordered_few configs ordered none same =
    subst (λ n. n ≤ 256) (sym (length_permutation configs ordered same))
    (ltb-false 256 (length configs) (without_fault configs none).many_none)
