-- What a program is to know of a server, by 005: how names are folded, which marks and modes there
-- are, and the limits. By it a program follows the modes of a channel that it does not know itself.
-- A list of targets has no limit but where a number stands.
--   :a.net 005 al CASEMAPPING=rfc1459 CHANTYPES=# PREFIX=(ov)@+ .. :are supported by this server
use Rattle.std.specs.Prelude.{ℕ, Some, List, [], ◌∷◌, codes}
use Rattle.irc_line.specs.Messages.{Written, named}

abbrev pub supported : List (List ℕ)
supported =
    codes "CASEMAPPING=rfc1459" ∷ codes "CHANTYPES=#" ∷ codes "PREFIX=(ov)@+"
    ∷ codes "CHANMODES=b,k,l,imnpst" ∷ codes "MODES=3" ∷ codes "NICKLEN=30"
    ∷ codes "CHANNELLEN=50" ∷ codes "TOPICLEN=160" ∷ codes "KICKLEN=160" ∷ codes "AWAYLEN=160"
    ∷ codes "MAXLIST=b:30" ∷ codes "CHANLIMIT=#:10"
    ∷ codes "TARGMAX=JOIN:,PART:,KICK:,LIST:,WHOIS:,PRIVMSG:4,NOTICE:4" ∷ []

abbrev pub supported_parts : (server nick : List ℕ) → Written
supported_parts server nick = record {
  sender = named server;
  command = codes "005";
  middle = nick ∷ supported;
  last = Some (codes "are supported by this server");
}
