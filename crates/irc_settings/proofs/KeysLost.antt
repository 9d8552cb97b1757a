-- A table with a key at which something stands that may not.
use Rattle.std.proofs.Common.{◌≡◌, ℕ, zero, suc, Bool, true, false, ◌&&◌, Result, Ok, Err, IsErrAnd}
use Rattle.std.proofs.Common.{List, [], ◌∷◌, drop, refl, sym, ap, ◌∙◌, subst}
use Rattle.std.specs.List.{list_all}
use Rattle.std.proofs.Math.Bool.{and-false}
use Rattle.toml.specs.Data.{Members}
use Rattle.irc_settings.specs.Keys.{SettingKey, is_in_form, is_kept, is_known_key, keys_in}
use Rattle.irc_settings.specs.Loops.Finding.{FindsValue}
use Rattle.irc_settings.specs.declared.fault.SettingsFault.{SettingsFault}
use Rattle.irc_settings.specs.declared.fault.SettingsFault.TheVariants.{BadConfiguration, Memory}

lost_behind : (place : ℕ) (keys rest : List SettingKey) (table : Members) → drop place keys ≡ rest
    → list_all (is_kept table) rest ≡ false → list_all (is_kept table) keys ≡ false
lost_behind zero keys rest table is lost =
    subst (λ ks. list_all (is_kept table) ks ≡ false) (sym is) lost
lost_behind (suc place) [] rest table is lost =
    subst (λ ks. list_all (is_kept table) ks ≡ false) (sym is) lost
lost_behind (suc place) (key ∷ keys) rest table is lost =
    ap (λ b. is_kept table key && b) (lost_behind place keys rest table is lost)
    ∙ and-false (is_kept table key)

in_no_form : (keys : List SettingKey) (table : Members) → list_all (is_kept table) keys ≡ false
    → is_in_form keys table ≡ false
in_no_form keys table lost = ap (λ b. list_all (is_known_key keys) (keys_in table) && b) lost
    ∙ and-false (list_all (is_known_key keys) (keys_in table))

-- the key at a place
pub key_lost : (place : ℕ) (keys : List SettingKey) (key : SettingKey) (behind : List SettingKey)
    (table : Members) → drop place keys ≡ key ∷ behind → is_kept table key ≡ false
    → is_in_form keys table ≡ false
key_lost place keys key behind table is lost =
    in_no_form keys table (lost_behind place keys (key ∷ behind) table is
    (ap (λ b. b && list_all (is_kept table) behind) lost))

-- one of two keys there
pub pair_lost : (place : ℕ) (keys : List SettingKey) (key other : SettingKey)
    (behind : List SettingKey)
    (table : Members) → drop place keys ≡ key ∷ other ∷ behind
    → is_kept table key && is_kept table other ≡ false → is_in_form keys table ≡ false
pair_lost place keys key other behind table is lost =
    in_no_form keys table (lost_behind place keys (key ∷ other ∷ behind) table is
    (both_lost (is_kept table key) (is_kept table other) (list_all (is_kept table) behind) lost))
  where
    both_lost : (one two rest : Bool) → one && two ≡ false → one && (two && rest) ≡ false
    both_lost true two rest lost = ap (λ b. b && rest) lost
    both_lost false two rest lost = refl

-- a part that is refused has the whole refused
pub refused : {X Y : Type 0} (test whole : Bool) (Is : X → Type 0) (Was : Y → Type 0)
    (r : Result Y SettingsFault) (fault : SettingsFault) → (test ≡ false → whole ≡ false)
    → FindsValue test Is (Err fault) → IsErrAnd r (λ e. e ≡ fault) → FindsValue whole Was r
refused test whole Is Was (Ok found) fault lost finds failed = absurd failed
refused test whole Is Was (Err told) fault lost finds failed =
    subst (λ f. FindsValue whole Was (Err f)) (sym failed) (by_fault fault finds)
  where
    by_fault : (fault : SettingsFault) → FindsValue test Is (Err fault)
        → FindsValue whole Was (Err fault)
    by_fault BadConfiguration finds = lost finds
    by_fault Memory finds = tt
