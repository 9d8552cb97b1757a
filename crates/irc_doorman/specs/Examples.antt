-- Texts of a doorman, and what becomes of lines, computed: the examples of `Texts.antt` and
-- `Guests.antt`.
use Rattle.std.specs.Prelude.{◌≡◌, ℕ, Some, None, List, ◌++◌, codes}
use Rattle.irc_line.specs.Bytes.{crlf}
use Rattle.irc_line.specs.Messages.{text}
use Rattle.irc_numerics.specs.declared.replies.Reply.TheVariants.{NeedMoreParams}
use Rattle.irc_numerics.specs.Replies.{reply_text}
use Rattle.irc_doorman.specs.declared.asks.Asks.{Asks}
use Rattle.irc_doorman.specs.declared.guest.Standing.{Standing}
use Rattle.irc_doorman.specs.declared.guest.Standing.TheVariants.{Free, Asked, Given}
use Rattle.irc_doorman.specs.declared.guest.Fate.{Fate}
use Rattle.irc_doorman.specs.declared.guest.Fate.TheVariants.{Passes, LacksWord, TurnedAway}
use Rattle.irc_doorman.specs.Guests.{standing_after, fate_of}
use Rattle.irc_doorman.specs.Texts.{bad_password, closing, lacking, ping}

pub record TextsAreSo : Type 0 where
  pub lacking_is : text (lacking (codes "a.net"))
      ≡ codes ":a.net 461 * PASS :Not enough parameters" ++ crlf
  pub bad_is : text (bad_password (codes "a.net"))
      ≡ codes ":a.net 464 * :Password incorrect" ++ crlf
  pub closing_is : text closing ≡ codes "ERROR :Closing link (Bad password)" ++ crlf
  pub ping_is : text (ping (codes "a.net")) ≡ codes "PING :a.net" ++ crlf

-- where `sesame` is asked for
abbrev sesame : Asks
sesame = record { server = codes "a.net"; password = Some (codes "sesame"); ping_after = None }

abbrev pub Judged : Standing → List ℕ → Standing → Fate → Type 0
Judged standing line after fate =
    (standing_after sesame line standing ≡ after) × (fate_of line standing ≡ fate)

pub record LinesAreJudged : Type 0 where
  pub right : Judged Asked (codes "PASS sesame") Given Passes
  pub in_small : Judged Asked (codes "pass :sesame") Given Passes
  pub front : Judged Asked (codes "PASS sesam") Asked Passes
  pub longer : Judged Asked (codes "PASS sesames") Asked Passes
  pub empty : Judged Asked (codes "PASS :") Asked Passes
  pub lacks : Judged Asked (codes "PASS") Asked LacksWord
  pub later_wrong : Judged Given (codes "PASS other") Asked Passes
  pub later_lacks : Judged Given (codes "PASS") Given LacksWord
  pub nick : Judged Asked (codes "NICK al") Free TurnedAway
  pub user : Judged Asked (codes "USER u 0 * :al") Free TurnedAway
  pub by_another : Judged Asked (codes ":bo NICK al") Free TurnedAway
  pub nick_behind : Judged Given (codes "NICK al") Free Passes
  pub others : Judged Asked (codes "JOIN #c") Asked Passes
  pub no_line : Judged Asked (codes "  ") Asked Passes
  pub free : Judged Free (codes "NICK al") Free Passes

-- 461 is the one that a server says
abbrev pub WordsAreOne : Type 0
WordsAreOne = (server : List ℕ)
    → text (lacking server) ≡ reply_text server None (NeedMoreParams (record {
      items = codes "PASS";
    }))
