-- Lengths of the lines that a server writes of servers, of a collision and of members.
use Rattle.std.proofs.Common.{◌≡◌, ℕ, suc, ◌+◌, ◌-◌, ◌*◌, ◌≤◌, Bool, true, false, ◌++◌}
use Rattle.std.proofs.Common.{if◌then◌else◌, List, [], ◌∷◌, length, length-append, codes, decimal}
use Rattle.std.proofs.Common.{ap, arith, lit≤, refl}
use Rattle.std.specs.List.{list_all}
use Rattle.std.specs.Cmp.{first_so, second_so}
use Rattle.std.proofs.lemmas.Bool.Decides.{nat_tests}
use Rattle.std.proofs.lemmas.Fmt.{length-decimal-le}
use Rattle.irc_line.specs.Limits.{max_line}
use Rattle.irc_line.specs.Bytes.{crlf}
use Rattle.irc_line.specs.Messages.{joined_text, line_text, prefix_text, prefix_of, named}
use Rattle.irc_line.specs.Lemmas.CutLaws.{cut_all}
use Rattle.irc_line.specs.Lemmas.Lengths.{length-joined_text, length-named}
use Rattle.irc_names.specs.Limits.{max_nick}
use Rattle.irc_names.specs.Names.{is_nick}
use Rattle.irc_names.specs.Lemmas.RuleFacts.{nick-fits, channel-fits, server-fits}
use Rattle.irc_channels.specs.declared.flags.Flags.{Flags}
use Rattle.irc_routes.specs.Info.{IsInfo}
use Rattle.irc_merge.specs.Bursts.{members_a_line}
use Rattle.irc_link_words.specs.Words.{are_words}
use Rattle.irc_link_writer.specs.Written.{next_distance, written_token}
use Rattle.irc_burst_lines.specs.DeedLines.{server_parts, squit_parts, kill_parts, njoin_parts}
use Rattle.irc_burst_lines.specs.DeedLines.{member_text, members_text, more_text}
use Rattle.irc_burst_lines.specs.WholeLines.{ServerFits, SquitFits, KillFits, MembersAreShort}
use Rattle.irc_burst_lines.specs.WholeLines.{MembersFit, FittingIsWhole}

info_short : (info : List ℕ) → IsInfo info → length info ≤ 63
info_short info rule = grind (arith, nat_tests)

words_short : (words : List ℕ) → are_words words ≡ true → length words ≤ 160
words_short words fits = grind (arith, nat_tests)

number_short : (n : ℕ) → n ≤ 4294967295 → length (decimal n) ≤ 10
number_short n most =
    length-decimal-le 10 n (omega arith) (omega (arith, most)) (omega (arith, most))

-- ---- servers

server_size : (all prefix uplink name distance token info : ℕ)
    → all ≡ prefix + (6 + (1 + name + (1 + distance + (1 + token + 0)) + (2 + info))) → prefix
    ≡ uplink + 2 → uplink ≤ 63 → name ≤ 63 → distance ≤ 10 → token ≤ 10 → info ≤ 63 → all ≤ 510
server_size all prefix uplink name distance token info all_is prefix_is uplink_fits name_fits
    distance_fits token_fits info_fits = omega arith

pub server_fits : ServerFits
server_fits known uplink name info told =
    let parts = server_parts known uplink name info in
    server_size (length (joined_text parts)) (length (prefix_text (prefix_of (named uplink))))
    (length uplink) (length name)
    (length (decimal (next_distance known name))) (length (decimal (written_token known name)))
    (length info) (length-joined_text parts) (length-named uplink)
    (server-fits uplink told.uplink_named) (server-fits name told.named)
    (number_short (next_distance known name) told.distance)
    (number_short (written_token known name) told.number) (info_short info told.described)

squit_size : (all prefix server name words : ℕ) → all ≡ prefix + (5 + (1 + name + 0 + (2 + words)))
    → prefix ≡ server + 2 → server ≤ 63 → name ≤ 63 → words ≤ 160 → all ≤ 510
squit_size all prefix server name words all_is prefix_is server_fits name_fits words_fit =
    omega arith

pub squit_fits : SquitFits
squit_fits server name words named_so name_so words_so =
    let parts = squit_parts server name words in
    squit_size (length (joined_text parts)) (length (prefix_text (prefix_of (named server))))
    (length server) (length name) (length words)
    (length-joined_text parts) (length-named server) (server-fits server named_so)
    (server-fits name name_so) (words_short words words_so)

kill_size : (all prefix server nick : ℕ) → all ≡ prefix + (4 + (1 + nick + 0 + 16))
    → prefix ≡ server + 2 → server ≤ 63 → nick ≤ max_nick → all ≤ 510
kill_size all prefix server nick all_is prefix_is server_fits nick_fits = omega arith

pub kill_fits : KillFits
kill_fits server nick named_so nick_so =
    let parts = kill_parts server nick in
    kill_size (length (joined_text parts)) (length (prefix_text (prefix_of (named server))))
    (length server) (length nick) (length-joined_text parts)
    (length-named server) (server-fits server named_so) (nick-fits nick nick_so)

-- ---- members

mark_short : (has : Bool) (mark : List ℕ) → length mark ≤ 1 → length (if has then mark else []) ≤ 1
mark_short true mark fits = fits
mark_short false mark fits = lit≤ tt

-- the longest member: both marks and a nickname
abbrev max_member : ℕ
max_member = 2 + max_nick

member_size : (all marks operator voiced nick : ℕ) → all ≡ marks + nick → marks ≡ operator + voiced
    → operator ≤ 1 → voiced ≤ 1 → nick ≤ max_nick → all ≤ max_member
member_size all marks operator voiced nick all_is marks_are operator_fits voiced_fits nick_fits =
    omega arith

member_short : (member : List ℕ × Flags) → is_nick member.0 ≡ true
    → length (member_text member) ≤ max_member
member_short member nick_so =
    let operator : List ℕ = if member.1.op then codes "@" else [] in
    let voiced : List ℕ = if member.1.voice then codes "+" else [] in
    member_size (length (member_text member)) (length (operator ++ voiced)) (length operator)
    (length voiced) (length member.0)
    (length-append (operator ++ voiced) member.0) (length-append operator voiced)
    (mark_short member.1.op (codes "@") (lit≤ tt))
    (mark_short member.1.voice (codes "+") (lit≤ tt)) (nick-fits member.0 nick_so)

more_size : (all first member rest count : ℕ) → all ≡ first + rest → first ≡ suc member
    → member ≤ max_member → rest ≤ (1 + max_member) * count → all ≤ (1 + max_member) * suc count
more_size all first member rest count all_is first_is member_fits rest_fits = omega arith

abbrev nicks_named : List (List ℕ × Flags) → Bool
nicks_named members = list_all (λ (member : List ℕ × Flags). is_nick member.0) members

more_short : (members : List (List ℕ × Flags)) → nicks_named members ≡ true
    → length (more_text members) ≤ (1 + max_member) * length members
more_short [] so = omega arith
more_short (member ∷ members) so =
    more_size (length (more_text (member ∷ members))) (length (codes "," ++ member_text member))
    (length (member_text member)) (length (more_text members))
    (length members) (length-append (codes "," ++ member_text member) (more_text members)) refl
    (member_short member (first_so (is_nick member.0) (nicks_named members) so))
    (more_short members (second_so (is_nick member.0) (nicks_named members) so))

-- one comma fewer than members
members_size : (all first rest count : ℕ) → all ≡ first + rest → first ≤ max_member
    → rest ≤ (1 + max_member) * count → all ≤ (1 + max_member) * suc count - 1
members_size all first rest count all_is first_fits rest_fits = omega arith

members_short : (members : List (List ℕ × Flags)) → nicks_named members ≡ true
    → length (members_text members) ≤ (1 + max_member) * length members - 1
members_short [] so = omega arith
members_short (member ∷ members) so =
    members_size (length (members_text (member ∷ members))) (length (member_text member))
    (length (more_text members)) (length members)
    (length-append (member_text member) (more_text members))
    (member_short member (first_so (is_nick member.0) (nicks_named members) so))
    (more_short members (second_so (is_nick member.0) (nicks_named members) so))

njoin_size : (all prefix server channel members count : ℕ)
    → all ≡ prefix + (5 + (1 + channel + 0 + (2 + members))) → prefix ≡ server + 2 → server ≤ 63
    → channel ≤ 50 → members ≤ (1 + max_member) * count - 1 → count ≤ members_a_line → all ≤ 452
njoin_size all prefix server channel members count all_is prefix_is server_fits channel_fits
    members_fit few = omega arith

pub members_are_short : MembersAreShort
members_are_short server channel members named_so channel_so nicks_so few =
    let parts = njoin_parts server channel members in
    njoin_size (length (joined_text parts)) (length (prefix_text (prefix_of (named server))))
    (length server) (length channel) (length (members_text members))
    (length members) (length-joined_text parts) (length-named server) (server-fits server named_so)
    (channel-fits channel channel_so)
    (members_short members nicks_so) few

within_line : (all : ℕ) → all ≤ 452 → all ≤ max_line
within_line all short = omega arith

pub members_fit : MembersFit
members_fit server channel members named_so channel_so nicks_so few =
    within_line (length (joined_text (njoin_parts server channel members)))
    (members_are_short server channel members named_so channel_so nicks_so few)

-- what fits is written whole
pub fitting_is_whole : FittingIsWhole
unfolding line_text
fitting_is_whole parts fits = ap (λ line. line ++ crlf) (cut_all (joined_text parts) fits)
