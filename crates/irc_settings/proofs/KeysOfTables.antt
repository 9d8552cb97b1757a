-- The keys of a table of the code are those of the members that it stands for.
use Rattle.std.proofs.Common.{◌≡◌, true, false, ◌&&◌, List, [], ◌∷◌, String, Global, string_bytes}
use Rattle.std.proofs.Common.{refl, ap, ◌∙◌, sym}
use Rattle.std.specs.List.{list_all}
use Rattle.std.specs.Map.{keys_of}
use Rattle.toml.specs.View.{members_view}
use Rattle.toml.specs.declared.value.Value.{Value}
use Rattle.irc_settings.specs.Keys.{SettingKey, is_known_key, is_kept, is_in_form, keys_in}

pub same_keys : (keys : List SettingKey) (es : List (String Global × Value))
    → list_all (λ name. is_known_key keys (string_bytes name)) (keys_of es)
    ≡ list_all (is_known_key keys) (keys_in (members_view es))
same_keys keys [] = refl
same_keys keys (e ∷ es) =
    ap (λ rest. is_known_key keys (string_bytes e.0) && rest) (same_keys keys es)

-- a key that is not known, and all as it should be
pub unknown_key : (keys : List SettingKey) (es : List (String Global × Value))
    → list_all (λ name. is_known_key keys (string_bytes name)) (keys_of es) ≡ false
    → is_in_form keys (members_view es) ≡ false
unknown_key keys es lost =
    ap (λ b. b && list_all (is_kept (members_view es)) keys) (sym (same_keys keys es) ∙ lost)

pub all_kept : (keys : List SettingKey) (es : List (String Global × Value))
    → list_all (λ name. is_known_key keys (string_bytes name)) (keys_of es) ≡ true
    → list_all (is_kept (members_view es)) keys ≡ true → is_in_form keys (members_view es) ≡ true
all_kept keys es known kept = ap (λ b. b && list_all (is_kept (members_view es)) keys)
    (sym (same_keys keys es) ∙ known) ∙ kept
