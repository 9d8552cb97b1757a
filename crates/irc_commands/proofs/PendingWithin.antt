-- What a connection gives before it is registered keeps to the limits, and it is added as a user
-- that other servers can be told of.
use Rattle.std.proofs.Common.{◌≢◌, ℕ, ◌≤◌, Option, List, [], ◌∷◌, length, take, map, refl, sym, ap}
use Rattle.std.proofs.Common.{subst, arith}
use Rattle.std.proofs.lemmas.List.{take_all}
use Rattle.std.specs.List.{AllByRecursion}
use Rattle.std.specs.Option.{IfSome}
use Rattle.irc_names.specs.Lemmas.PlainFacts.{length-take_bound}
use Rattle.irc_names.specs.Limits.{max_user_name, max_real_name}
use Rattle.irc_names.specs.Names.{IsNick}
use Rattle.irc_names.specs.UserTexts.{IsUserName, clean_user_byte, clean_user, cut_real}
use Rattle.irc_names.specs.Lemmas.CleanNames.{clean_name}
use Rattle.irc_line.specs.Carried.{IsCarried}
use Rattle.irc_line.specs.Lines.{earlier_pieces}
use Rattle.irc_line.specs.Messages.{IsPlainWord}
use Rattle.irc_room.specs.Room.{Room}
use Rattle.irc_acts.specs.CarriedWords.{front_carried}
use Rattle.irc_acts.specs.Sendable.{AreSendable}
use Rattle.irc_commands.specs.Register.{Registered}
use Rattle.irc_commands.specs.Sendable.{IsNamed, IsPendingWithin, RegisteringIsSendable}
use Rattle.irc_commands.proofs.SendableLaws.{all_words}
use Rattle.irc_commands.proofs.RegisteringCases.{registering_within}

-- what is given now keeps to the limits, and what is done can be sent
abbrev IsGood : Room → Registered → Type 0
IsGood room r = IsPendingWithin r.pending × AreSendable room r.steps

-- ---- what is made of the words of a USER

name_cleaned : (bytes : List ℕ) → IsUserName (clean_user bytes)
unfolding clean_user
name_cleaned bytes =
    let kept = take max_user_name bytes in
    clean_name bytes kept (map clean_user_byte kept) (length kept) refl
    (ap (map clean_user_byte) (sym (take_all (length kept) kept (omega arith))))

some_cleaned : (bytes : List ℕ) → bytes ≢ [] → clean_user bytes ≢ []
unfolding clean_user
some_cleaned [] some = λ e. some refl
some_cleaned (b ∷ bytes) some = λ e. cc

real_fits : (bytes : List ℕ) → length (cut_real bytes) ≤ max_real_name
unfolding cut_real
real_fits bytes = length-take_bound max_real_name bytes

real_carried : (bytes : List ℕ) → IsCarried bytes → IsCarried (cut_real bytes)
unfolding cut_real
real_carried bytes carried = front_carried max_real_name bytes carried

pub registering_is_sendable : RegisteringIsSendable
registering_is_sendable room place pending line message within server words =
    registering_within room place pending message IsPendingWithin (IsGood room)
    (record {
      silent = λ pending within. (within, tt);
      answered = λ pending within reply. (within, tt);
      told = λ pending within line. (within, tt);
      closed = λ pending within line. (within, tt);
      added = λ pending within nickname username is named free. let name : IsNamed username =
          subst (λ (o : Option (List ℕ)). IfSome o IsNamed) named within.name in (
            within,
            record {
              now = record {
                within = record {
                  nick = subst (λ (o : Option (List ℕ)). IfSome o IsNick) is within.nick;
                  name = name.clean;
                  name_some = name.some;
                  host = within.host;
                  real_fits = within.real_fits;
                  real_carried = within.real_carried;
                  home = server;
                  away = tt;
                };
                whole = refl;
              };
              later = tt;
            },
          );
    })
    (record {
      chosen = λ pending nickname within is. record {
        nick = is;
        name = within.name;
        real_fits = within.real_fits;
        real_carried = within.real_carried;
        host = within.host;
      };
      lost = λ pending within. record {
        nick = tt;
        name = within.name;
        real_fits = within.real_fits;
        real_carried = within.real_carried;
        host = within.host;
      };
      named = λ pending username mode unused real more within is.
          let plain = subst (λ (p : List (List ℕ)). AllByRecursion IsPlainWord (earlier_pieces p))
          is words.earlier_params in
          let carried = subst (AllByRecursion IsCarried) is
          (all_words line message.params words.params) in
          record {
            nick = within.nick;
            name = record {
              clean = name_cleaned username;
              some = some_cleaned username plain.0.is_some;
            };
            real_fits = real_fits real;
            real_carried = real_carried real carried.1.1.1.0;
            host = within.host;
          };
    })
    within
