-- What a name of each kind is known to have: its length, its bytes, its first byte. For the crates
-- that write names into lines.
use Rattle.std.proofs.Common.{◌≡◌, ℕ, ◌≤◌, Bool, true, false, ◌||◌, List, [], ◌∷◌, length}
use Rattle.std.proofs.Common.{refl, arith, nat_eq}
use Rattle.std.specs.List.{list_any, list_all}
use Rattle.std.proofs.lemmas.Bool.Decides.{nat_tests}
use Rattle.std.proofs.lemmas.Bool.{eqb-true}
use Rattle.std.specs.Cmp.{first_so, second_so}
use Rattle.irc_names.specs.Names.{is_nick, is_channel, is_host, is_server, is_key, is_ban_mask}
use Rattle.irc_names.specs.declared.TheConstants.{MAX_NICK, MAX_CHANNEL, MAX_HOST, MAX_SERVER}
use Rattle.irc_names.specs.UserTexts.{is_away}
use Rattle.irc_names.specs.declared.TheConstants.{MAX_KEY, MAX_BAN_MASK, MAX_WORDS}

-- ---- lengths

pub nick-fits : (bytes : List ℕ) → is_nick bytes ≡ true → length bytes ≤ MAX_NICK
unfolding is_nick
nick-fits [] h = grind (arith, nat_tests)
nick-fits (x ∷ xs) h = grind (arith, nat_tests)

pub channel-fits : (bytes : List ℕ) → is_channel bytes ≡ true → length bytes ≤ MAX_CHANNEL
unfolding is_channel
channel-fits [] h = grind (arith, nat_tests)
channel-fits (x ∷ xs) h = grind (arith, nat_tests)

pub host-fits : (bytes : List ℕ) → is_host bytes ≡ true → length bytes ≤ MAX_HOST
unfolding is_host
host-fits bytes h = grind (arith, nat_tests)

pub server-fits : (bytes : List ℕ) → is_server bytes ≡ true → length bytes ≤ MAX_SERVER
unfolding is_server
server-fits bytes h = grind (arith, nat_tests)

pub key-fits : (bytes : List ℕ) → is_key bytes ≡ true → length bytes ≤ MAX_KEY
unfolding is_key
key-fits bytes h = grind (arith, nat_tests)

pub ban_mask-fits : (bytes : List ℕ) → is_ban_mask bytes ≡ true → length bytes ≤ MAX_BAN_MASK
unfolding is_ban_mask
ban_mask-fits bytes h = grind (arith, nat_tests)

pub away-fits : (bytes : List ℕ) → is_away bytes ≡ true → length bytes ≤ MAX_WORDS
unfolding is_away
away-fits [] h = grind (arith, nat_tests)
away-fits (x ∷ xs) h = grind (arith, nat_tests)

-- ---- bytes

either : (letter special alphanumeric dash : Bool) → (letter ≡ true → alphanumeric ≡ true)
    → (letter || special) ≡ true → (alphanumeric || special || dash) ≡ true
either true special alphanumeric dash h starts = let p : alphanumeric ≡ true = h refl in cc
either false special true dash h starts = refl
either false special false dash h starts = cc

-- A byte that a rule refuses is nowhere in bytes that all meet it. At a rule of this crate and a
-- numeral, as NUL or a space, the premise is `refl`.
pub lacks : (rule : ℕ → Bool) (byte : ℕ) → rule byte ≡ false → (bytes : List ℕ)
    → list_all rule bytes ≡ true → list_any (nat_eq byte) bytes ≡ false
lacks rule byte refused [] all = refl
lacks rule byte refused (x ∷ xs) all =
    let first : rule x ≡ true = first_so (rule x) (list_all rule xs) all in
    let rest : list_any (nat_eq byte) xs ≡ false =
    lacks rule byte refused xs (second_so (rule x) (list_all rule xs) all) in
    by (nat_eq byte x) refl first rest
  where
    by : (test : Bool) → nat_eq byte x ≡ test → rule x ≡ true → list_any (nat_eq byte) xs ≡ false
        → list_any (nat_eq byte) (x ∷ xs) ≡ false
    by true equal first rest = let same : byte ≡ x = eqb-true byte x equal in cc
    by false other first rest = cc

-- how long each kind is, for proofs that name this set
pub ruleset lengths =
    (nick-fits, channel-fits, host-fits, server-fits, key-fits, ban_mask-fits, away-fits)
