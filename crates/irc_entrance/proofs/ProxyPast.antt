-- What is wanted of a header is never more than it has.
use Rattle.std.proofs.Common.{◌≡◌, ◌∙◌, sym, ap, subst, refl, ℕ, ◌+◌, ◌-◌, ◌*◌, ◌≤◌, Bool}
use Rattle.std.proofs.Common.{true, false, ◌||◌, nat_eq, nat_lt, min, List, [], ◌∷◌, ◌++◌}
use Rattle.std.proofs.Common.{cond, length, drop, codes, arith, length-append, length-drop}
use Rattle.std.proofs.Common.{length-take, Option, Some, None, append-nil, bytes_eq, if◌then◌else◌}
use Rattle.std.proofs.Math.Nat.{min-le_left}
use Rattle.std.proofs.lemmas.Bool.{eqb-true, ltb-false}
use Rattle.std.proofs.lemmas.List.{get_or_append_left}
use Rattle.std.proofs.lemmas.List.Splits.{length-slice_split}
use Rattle.std.proofs.lemmas.List.Sums.{count_by-le-length}
use Rattle.std.specs.List.{starts_with}
use Rattle.std.specs.declared.net.ip_addr.IpAddr.{IpAddr}
use Rattle.std.specs.Cmp.{second_so, first_so}
use Rattle.irc_entrance.specs.ProxyBytes.{IsBytes, behind, is_taken, is_whole, more_of_bytes}
use Rattle.irc_entrance.specs.ProxyLaws.{HeadersAreTaken, NothingBehindIsWanted}
use Rattle.irc_entrance.specs.ProxyLines.{AreEnds, IsLine, IsNamed, IsSource, ends_in, family_of}
use Rattle.irc_entrance.specs.ProxyLines.{is_space, is_unknown, line_end, more_of_line}
use Rattle.irc_entrance.specs.ProxyLines.{without_end}
use Rattle.irc_entrance.specs.Proxying.{IsOfKind, agrees, kind_of, more_in}
use Rattle.irc_entrance.specs.Proxying.{signature}
use Rattle.irc_entrance.specs.Proxying.{IsHeader, tells, wants}
use Rattle.irc_entrance.specs.declared.proxy_header.ProxyHeader.TheVariants.{Wants, Bad, Unnamed}
use Rattle.irc_entrance.specs.declared.proxy_header.ProxyHeader.TheVariants.{Names}
use Rattle.irc_entrance.specs.declared.proxy_line.LineFamily.TheVariants.{Tcp4, Tcp6, Unknown}
use Rattle.irc_entrance.specs.declared.proxy_line.LineFamily.TheVariants.{Other}
use Rattle.irc_entrance.specs.declared.proxy_header.HeaderKind.{HeaderKind}
use Rattle.irc_entrance.specs.declared.proxy_header.HeaderKind.TheVariants.{Line, Bytes, Neither}
use Rattle.irc_entrance.proofs.ProxyFronts.{first_byte, front_fits, one_before_end}
use lib.Pointwise.{pointwise_long}

-- ---- version 2

whole_length : (all : List ℕ) → is_whole all ≡ true → length all ≡ 16 + behind all
whole_length all whole = eqb-true _ _ (second_so (is_taken all) _ whole)

-- how many follow is said by the first 16
behind_same : (bytes rest : List ℕ) → 16 ≤ length bytes → behind (bytes ++ rest) ≡ behind bytes
behind_same bytes rest long = λ i.
    get_or_append_left bytes rest 0 14 (omega (arith, long)) i * 256
    + get_or_append_left bytes rest 0 15 (omega (arith, long)) i

pub bytes_not_past : (bytes rest : List ℕ) (named : Option IpAddr) → IsBytes (bytes ++ rest) named
    → more_of_bytes bytes ≤ length rest
bytes_not_past bytes rest named is =
    elim (nat_lt (length bytes) 16) as (λ t. nat_lt (length bytes) 16 ≡ t
    → cond t (16 - length bytes) (cond (is_taken bytes) ((16 + behind bytes) - length bytes) 0)
    ≤ length rest) [
      | true ↦ λ short.
          omega (arith, whole_length (bytes ++ rest) is.is_whole, length-append bytes rest)
      | false ↦ λ long. elim (is_taken bytes)
          as (λ t. cond t ((16 + behind bytes) - length bytes) 0 ≤ length rest) [
            | true ↦ omega (
              arith,
              whole_length (bytes ++ rest) is.is_whole,
              length-append bytes rest,
              behind_same bytes rest (ltb-false _ _ long),
            )
            | false ↦ omega arith
          ]
    ] refl

-- ---- version 1

-- four words have three spaces
four_words : (is_of_ipv4 : Bool) (text : List ℕ) (source : IpAddr) → AreEnds is_of_ipv4 text source
    → 3 ≤ length text
four_words is_of_ipv4 text source ends =
    omega (
      arith,
      sym (length-slice_split is_space text) ∙ ap length ends.words_are,
      count_by-le-length is_space text,
    )

-- a source stands behind eleven bytes
behind_eleven : (is_of_ipv4 : Bool) (text : List ℕ) (named : Option IpAddr)
    → IsSource is_of_ipv4 (drop 11 text) named → 13 ≤ length text
behind_eleven is_of_ipv4 text (Some source) is =
    omega (arith, four_words is_of_ipv4 (drop 11 text) source is, length-drop 11 text)
behind_eleven is_of_ipv4 text None is = absurd is

-- so does the word of who names nobody
unknown_fits : (text : List ℕ) → is_unknown text ≡ true → 13 ≤ length text
unknown_fits text is =
    elim (bytes_eq text (codes "PROXY UNKNOWN"))
    as (λ t. bytes_eq text (codes "PROXY UNKNOWN") ≡ t
    → t || starts_with nat_eq text (codes "PROXY UNKNOWN ") ≡ true → 13 ≤ length text) [
      | true ↦ λ same any. omega (arith, pointwise_long nat_eq text (codes "PROXY UNKNOWN") same)
      | false ↦ λ other begins.
          omega (arith, front_fits text (codes "PROXY UNKNOWN ") begins)
    ] refl is

text_fits : (text : List ℕ) (named : Option IpAddr) → IsNamed (family_of text) text named
    → 13 ≤ length text
text_fits text named is =
    elim (starts_with nat_eq text (codes "PROXY TCP4 "))
    as (λ t. IsNamed (if t then Tcp4
    else (if starts_with nat_eq text (codes "PROXY TCP6 ") then Tcp6
    else (if is_unknown text then Unknown else Other))) text named → 13 ≤ length text) [
      | true ↦ λ source. behind_eleven true text named source
      | false ↦ λ other. elim (starts_with nat_eq text (codes "PROXY TCP6 "))
          as (λ t. IsNamed (if t then Tcp6
          else (if is_unknown text then Unknown else Other)) text named → 13 ≤ length text) [
            | true ↦ λ source. behind_eleven false text named source
            | false ↦ λ last. elim (is_unknown text)
                as (λ t. is_unknown text ≡ t
                → IsNamed (if t then Unknown else Other) text named → 13 ≤ length text) [
                  | true ↦ λ unknown any. unknown_fits text unknown
                  | false ↦ λ known none. absurd none
                ] refl last
          ] other
    ] is

shortest : (all : List ℕ) (named : Option IpAddr) → IsLine all named → 15 ≤ length all
shortest all named is =
    omega (arith, text_fits (without_end all) named is.named_is, length-take (length all - 2) all)

-- bytes that are no line yet
unfinished : (bytes rest : List ℕ) → 15 ≤ length bytes → ends_in line_end (bytes ++ rest) ≡ true
    → ends_in line_end bytes ≡ false
    → min (if ends_in (13 ∷ []) bytes then 1 else 2) (107 - length bytes) ≤ length rest
unfinished bytes [] long ends unended =
    cc (sym (subst (λ all. ends_in line_end all ≡ true) (append-nil bytes) ends) ∙ unended)
unfinished bytes (x ∷ []) long ends unended =
    subst (λ t. min (if t then 1 else 2) (107 - length bytes) ≤ 1)
    (sym (one_before_end bytes x (omega (arith, long)) ends)) (min-le_left 1 (107 - length bytes))
unfinished bytes (x ∷ y ∷ rest) long ends unended =
    elim (ends_in (13 ∷ []) bytes)
    as (λ t. min (if t then 1 else 2) (107 - length bytes) ≤ length (x ∷ y ∷ rest)) [
      | true ↦ omega (arith, min-le_left 1 (107 - length bytes))
      | false ↦ omega (arith, min-le_left 2 (107 - length bytes))
    ]

pub line_not_past : (bytes rest : List ℕ) (named : Option IpAddr) → IsLine (bytes ++ rest) named
    → more_of_line bytes ≤ length rest
line_not_past bytes rest named is =
    elim (nat_lt (length bytes) 15) as (λ t. nat_lt (length bytes) 15 ≡ t
    → cond t (15 - length bytes) (cond (ends_in line_end bytes) 0
    (min (if ends_in (13 ∷ []) bytes then 1 else 2) (107 - length bytes))) ≤ length rest) [
      | true ↦ λ short.
          omega (arith, shortest (bytes ++ rest) named is, length-append bytes rest)
      | false ↦ λ long. elim (ends_in line_end bytes)
          as (λ t. ends_in line_end bytes ≡ t → cond t 0
          (min (if ends_in (13 ∷ []) bytes then 1 else 2) (107 - length bytes)) ≤ length rest) [
            | true ↦ λ ended. omega arith
            | false ↦ λ unended. unfinished bytes rest (ltb-false _ _ long)
                (first_so _ _ is.is_line) unended
          ] refl
    ] refl

-- ---- of both kinds

begins_line : (b : ℕ) (bytes : List ℕ) → kind_of (b ∷ bytes) ≡ Line → b ≡ 80
begins_line b bytes is =
    elim (agrees (b ∷ bytes) (codes "PROXY ")) as (λ t. agrees (b ∷ bytes) (codes "PROXY ") ≡ t
    → (if t then Line else (if agrees (b ∷ bytes) signature then Bytes else Neither)) ≡ Line
    → b ≡ 80) [
      | true ↦ λ same any. first_byte b bytes 80 (codes "ROXY ") same
      | false ↦ λ other none. elim (agrees (b ∷ bytes) signature)
          as (λ t. (if t then Bytes else Neither) ≡ Line → b ≡ 80) [
            | true ↦ λ (never : Bytes ≡ Line). cc never
            | false ↦ λ (never : Neither ≡ Line). cc never
          ] none
    ] refl is

begins_bytes : (b : ℕ) (bytes : List ℕ) → kind_of (b ∷ bytes) ≡ Bytes → b ≡ 13
begins_bytes b bytes is =
    elim (agrees (b ∷ bytes) (codes "PROXY "))
    as (λ t. (if t then Line else (if agrees (b ∷ bytes) signature then Bytes else Neither))
    ≡ Bytes → b ≡ 13) [
      | true ↦ λ (never : Line ≡ Bytes). cc never
      | false ↦ λ others. elim (agrees (b ∷ bytes) signature)
          as (λ t. agrees (b ∷ bytes) signature ≡ t
          → (if t then Bytes else Neither) ≡ Bytes → b ≡ 13) [
            | true ↦ λ same any. first_byte b bytes 13 (drop 1 signature) same
            | false ↦ λ other (never : Neither ≡ Bytes). cc never
          ] refl others
    ] is

not_past : (bytes rest : List ℕ) (named : Option IpAddr) (here there : HeaderKind)
    → kind_of bytes ≡ here → kind_of (bytes ++ rest) ≡ there
    → IsOfKind there (bytes ++ rest) named → more_in here bytes ≤ length rest
not_past bytes rest named Neither there here_is there_is is = omega arith
not_past bytes rest named Line Neither here_is there_is is = absurd is
not_past bytes rest named Bytes Neither here_is there_is is = absurd is
not_past bytes rest named Line Line here_is there_is is = line_not_past bytes rest named is
not_past bytes rest named Bytes Bytes here_is there_is is = bytes_not_past bytes rest named is
not_past [] rest named Line Bytes here_is there_is is = omega (arith, whole_length rest is.is_whole)
not_past (b ∷ bytes) rest named Line Bytes here_is there_is is =
    absurd (omega (arith, begins_line b bytes here_is, begins_bytes b (bytes ++ rest) there_is))
not_past [] rest named Bytes Line here_is there_is is = cc here_is
not_past (b ∷ bytes) rest named Bytes Line here_is there_is is =
    absurd (omega (arith, begins_bytes b bytes here_is, begins_line b (bytes ++ rest) there_is))

pub nothing_behind_is_wanted : NothingBehindIsWanted
nothing_behind_is_wanted bytes rest named is =
    not_past bytes rest named (kind_of bytes) (kind_of (bytes ++ rest)) refl refl is

pub headers_are_taken : HeadersAreTaken
headers_are_taken bytes named (Wants count) is (wants {count = more} count_is some) =
    absurd (omega (
      arith,
      count_is,
      some,
      nothing_behind_is_wanted bytes [] named
          (subst (λ all. IsHeader all named) (sym (append-nil bytes)) is),
    ))
headers_are_taken bytes named (Wants count) is (tells none never) = absurd never
headers_are_taken bytes named Bad is (tells none never) = absurd (never named is)
headers_are_taken bytes named Unnamed is told = refl
headers_are_taken bytes named (Names address) is told = refl
