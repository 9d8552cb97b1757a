-- An introduction is read as the user that it tells of.
use Rattle.std.proofs.Common.{◌≡◌, ◌≢◌, ℕ, suc, ◌≤◌, Bool, true, false, ◌&&◌, is_some, Option, Some}
use Rattle.std.proofs.Common.{None, Ok, List, [], ◌∷◌, length, decimal, nat_eq, unwrap_or}
use Rattle.std.proofs.Common.{if◌then◌else◌, refl, sym, ◌∙◌, ap, arith}
use Rattle.std.proofs.lemmas.Bool.{and_from, eq-eqb}
use Rattle.std.proofs.lemmas.Bool.Decides.{nat_tests}
use Rattle.std.specs.List.{list_all}
use Rattle.std.specs.Option.{IfSome, option_map_or}
use Rattle.std.specs.Str.{bytes_eq}
use Rattle.irc_names.specs.Limits.{max_real_name}
use Rattle.irc_names.specs.Names.{fits, is_nick, is_host}
use Rattle.irc_names.specs.Digits.{number_of}
use Rattle.irc_names.specs.UserTexts.{IsUserName, IsRealName, is_user_byte}
use Rattle.irc_users.specs.declared.user.User.{User}
use Rattle.irc_users.specs.ChangesTold.{as_introduced}
use Rattle.irc_users.specs.UserTable.{nothing_set}
use Rattle.irc_room.specs.effect.Effect.TheVariants.{AddUser}
use Rattle.irc_room.specs.Limits.{IsUserWithin}
use Rattle.irc_routes.specs.Known.{Known, distance_of}
use Rattle.irc_readback.specs.Introductions.{IntroducedIsRead}
use Rattle.irc_link_reader.specs.Means.{Checked, first_fault, home_of_token, introduction_line}
use Rattle.irc_link_reader.specs.Means.{is_distance_of}
use Rattle.irc_link_words.specs.Numbers.{is_number}
use Rattle.irc_link_reader.specs.Reader.{Reader}
use Rattle.irc_link_words.specs.Words.{is_come_mode, is_user_name, no_mode, with_i}
use Rattle.irc_link_writer.specs.Written.{next_distance, written_token}
use Rattle.irc_readback.specs.Lemmas.NumberText.{number_read, number_taken}

-- a line in which there is no fault means what it says
pub no_fault : (checked : Checked) → checked.parameters ≡ true → checked.token ≡ true
    → checked.direction ≡ true → checked.names ≡ true → first_fault checked ≡ Ok checked.effects
no_fault checked parameters token direction names = rw (parameters, token, direction, names)

-- ---- the words of an introduction

named_so : (word : List ℕ) → IsUserName word → word ≢ [] → is_user_name word ≡ true
named_so [] is some = absurd (some refl)
named_so (byte ∷ bytes) is some =
    let short : length (byte ∷ bytes) ≤ 10 = is.fits in
    and_from (list_all is_user_byte (byte ∷ bytes)) _ is.clean (grind (arith, nat_tests))

real_so : (text : List ℕ) → IsRealName text → fits max_real_name text ≡ true
real_so text short = let few : length text ≤ 50 = short in grind (arith, nat_tests)

mode_so : (invisible : Bool) → is_come_mode (if invisible then with_i else no_mode) ≡ true
mode_so true = refl
mode_so false = refl

mode_read : (invisible : Bool) → bytes_eq (if invisible then with_i else no_mode) with_i ≡ invisible
mode_read true = refl
mode_read false = refl

-- ---- the server that the user is connected to

distance_so : (far : Option ℕ) (links : ℕ) → IfSome far (λ there. there ≡ links)
    → option_map_or (nat_eq links) far true ≡ true
distance_so None links is = refl
distance_so (Some there) links is = eq-eqb links there (sym is)

-- what the reader takes the user's server for, by the text of its number
home_found : (reader : Reader) (number : ℕ) (home : List ℕ) → number ≤ 4294967295
    → reader.server number ≡ Some home → home_of_token reader (decimal number) ≡ Some home
home_found reader number home most is = ap reader.server (number_read number most) ∙ is

distance_taken : (reader : Reader) (found : Option (List ℕ)) (home : List ℕ) (links : ℕ) → links
    ≤ 4294967295 → found ≡ Some home → IfSome (reader.distance home) (λ there. there ≡ links)
    → is_distance_of reader found (number_of (decimal links)) ≡ true
distance_taken reader found home links most is far =
    ap (λ o. is_distance_of reader o (number_of (decimal links))) is
    ∙ ap (λ n. option_map_or (nat_eq n) (reader.distance home) true) (number_read links most)
    ∙ distance_so (reader.distance home) links far

-- ---- the line

parameters_so : (distance name token mode real there : Bool) → distance ≡ true
    → name ≡ true → token ≡ true → mode ≡ true → real ≡ true → there ≡ true
    → (distance && name && token && mode && real && there) ≡ true
parameters_so distance name token mode real there one two three four five six =
    rw (one, two, three, four, five, six)

abbrev with_home : User → Option (List ℕ) → Bool → User
with_home user found mode =
    record {
      nick = user.nick;
      user = user.user;
      host = user.host;
      real = user.real;
      home = unwrap_or found [];
      invisible = mode;
      set = nothing_set;
    }

-- the user that the line makes, of the server that was found
user_made : (user : User) (found : Option (List ℕ)) (mode : Bool) → found ≡ Some user.home
    → mode ≡ user.invisible
    → AddUser (with_home user found mode) ∷ [] ≡ AddUser (as_introduced user) ∷ []
user_made user found mode is same =
    ap (λ o. AddUser (with_home user o mode) ∷ []) is
    ∙ ap (λ b. AddUser (with_home user (Some user.home) b) ∷ []) same

introduced : (known : Known) (reader : Reader) (user : User) (links number : ℕ) → IsUserWithin user
    → 1 ≤ links → links ≤ 4294967295 → 1 ≤ number → number ≤ 4294967295 → reader.server number
    ≡ Some user.home → IfSome (reader.distance user.home) (λ there. there ≡ links) → first_fault
    (introduction_line reader user.nick (decimal links) user.user user.host (decimal number)
    (if user.invisible then with_i else no_mode) user.real)
    ≡ Ok (AddUser (as_introduced user) ∷ [])
introduced known reader user links number within links_some links_most number_some number_most
    found far =
    let mode : List ℕ = if user.invisible then with_i else no_mode in
    let checked = introduction_line reader user.nick (decimal links) user.user user.host
    (decimal number) mode user.real in
    let home = home_found reader number user.home number_most found in
    no_fault checked
    (parameters_so (is_number (decimal links)) (is_user_name user.user)
    (is_number (decimal number)) _ _ _ (number_taken links links_some links_most)
    (named_so user.user within.name within.name_some) (number_taken number number_some number_most)
    (mode_so user.invisible)
    (real_so user.real within.real_fits) (distance_taken reader
    (home_of_token reader (decimal number)) user.home links links_most home far))
    (ap is_some home) refl
    (and_from (is_nick user.nick) (is_host user.host) within.nick within.host)
    ∙ ap Ok (user_made user (home_of_token reader (decimal number)) _ home
    (mode_read user.invisible))

next_some : (links : Option ℕ) → 1 ≤ suc (unwrap_or links 0)
next_some links = omega arith

pub introduced_is_read : IntroducedIsRead
introduced_is_read known reader user is =
    introduced known reader user (next_distance known user.home)
    (written_token known user.home) is.within (next_some (distance_of known user.home))
    is.distance_most is.number_some is.number_most is.server is.distance
