-- What stands in front of a piece is read again as it was written.
use Rattle.std.proofs.Common.{◌≡◌, ◌≤◌, ◌<◌, ◌+◌, ℕ, true, false, not, ◌&&◌, ◌||◌, Option}
use Rattle.std.proofs.Common.{Some, None, Ok, List, [], ◌∷◌, ◌++◌, codes, decimal, length, refl}
use Rattle.std.proofs.Common.{sym, ap, ◌∙◌, arith, lit≤, if◌then◌else◌, length-append}
use Rattle.std.proofs.lemmas.Bool.Decides.{nat_tests}
use Rattle.std.specs.Char.{is_ascii_digit}
use Rattle.std.specs.Cmp.{first_so, second_so}
use Rattle.std.specs.List.{list_all, AllByRecursion}
use Rattle.std.specs.Prelude.{option_and_then}
use Rattle.irc_decimals.specs.Numbers.{written_number}
use Rattle.irc_decimals.specs.Laws.{AreDigits, NumbersAreDigits, WrittenIsRead}
use Rattle.irc_line.specs.Bytes.{is_nul, is_space, is_colon, has_nul}
use Rattle.irc_line.specs.Laws as line_laws
use Rattle.irc_line.specs.Messages.{IsPlain, IsPlainWord, joined_text, line_text, message_of}
use Rattle.irc_line.specs.Reading.{read_of}
use Rattle.irc_pieces.specs.Counting.{count_if, count_line, count_of, count_parts, from_nobody}
use Rattle.irc_pieces.specs.Counting.{count_in, count_of_words, if_possible, mark_of, mark_word}
use Rattle.irc_pieces.specs.Counting.{mark_words, may_have, or_parameters}
use Rattle.irc_pieces.specs.Laws.{IsCount}
use Rattle.irc_pieces.specs.declared.count.Count.{Count}
use Rattle.irc_pieces.specs.declared.count.Mark.{Mark}
use Rattle.irc_pieces.specs.declared.count.Mark.TheVariants.{Set}

-- what is known in the crates below
pub record IsKnown : Type 0 where
  pub numbers : WrittenIsRead
  pub digits : NumbersAreDigits
  pub written : line_laws.WrittenIsRead
  pub alone : line_laws.IsReadSoAlone

-- ---- words that are read again as they were written

word_of : (first : ℕ) (rest : List ℕ) → list_all (λ b. not (is_space b)) (first ∷ rest) ≡ true
    → is_colon first ≡ false → has_nul (first ∷ rest) ≡ false → IsPlainWord (first ∷ rest)
word_of first rest no_space no_colon no_nul =
    record { is_some = λ e. cc e; no_space = no_space; no_colon = no_colon; no_nul = no_nul }

digit_no_space : (byte : ℕ) → is_ascii_digit byte ≡ true → not (is_space byte) ≡ true
digit_no_space byte is = grind (arith, nat_tests)

digit_no_nul : (byte : ℕ) → is_ascii_digit byte ≡ true → is_nul byte ≡ false
digit_no_nul byte is = grind (arith, nat_tests)

digit_no_colon : (byte : ℕ) → is_ascii_digit byte ≡ true → is_colon byte ≡ false
digit_no_colon byte is = grind (arith, nat_tests)

no_spaces : (digits : List ℕ) → list_all is_ascii_digit digits ≡ true
    → list_all (λ b. not (is_space b)) digits ≡ true
no_spaces [] all = refl
no_spaces (byte ∷ bytes) all =
    ap (λ b. b && list_all (λ b. not (is_space b)) bytes)
    (digit_no_space byte (first_so (is_ascii_digit byte) (list_all is_ascii_digit bytes) all))
    ∙ no_spaces bytes (second_so (is_ascii_digit byte) (list_all is_ascii_digit bytes) all)

no_nuls : (digits : List ℕ) → list_all is_ascii_digit digits ≡ true → has_nul digits ≡ false
no_nuls [] all = refl
no_nuls (byte ∷ bytes) all =
    ap (λ b. b || has_nul bytes)
    (digit_no_nul byte (first_so (is_ascii_digit byte) (list_all is_ascii_digit bytes) all))
    ∙ no_nuls bytes (second_so (is_ascii_digit byte) (list_all is_ascii_digit bytes) all)

digits_plain : (digits : List ℕ) → list_all is_ascii_digit digits ≡ true → 0 < length digits
    → IsPlainWord digits
digits_plain [] all some = absurd (omega (arith, some))
digits_plain (byte ∷ bytes) all some =
    word_of byte bytes (no_spaces (byte ∷ bytes) all)
    (digit_no_colon byte (first_so (is_ascii_digit byte) (list_all is_ascii_digit bytes) all))
    (no_nuls (byte ∷ bytes) all)

number_plain : (number : ℕ) → AreDigits number → IsPlainWord (decimal number)
number_plain number is = digits_plain (decimal number) is.digits is.some

mark_plain : (mark : Mark) → IsPlainWord (mark_word mark)
mark_plain Set = word_of _ _ refl refl refl

-- ---- the line

parts_plain : (count : Count) → AreDigits count.read → AreDigits count.lines
    → IsPlain (count_parts count)
parts_plain count read lines = record {
  prefix_no_space = refl;
  prefix_no_nul = refl;
  command = word_of _ _ refl refl refl;
  middle = (number_plain count.read read, (number_plain count.lines lines, marks count.mark));
  last_no_nul = refl;
  count = few count.mark;
}
  where
    marks : (mark : Option Mark) → AllByRecursion IsPlainWord (mark_words mark)
    marks None = tt
    marks (Some mark) = (mark_plain mark, tt)

    few : (mark : Option Mark) → length ((decimal count.read ∷ decimal count.lines
        ∷ mark_words mark) ++ []) ≤ 15
    few None = lit≤ tt
    few (Some mark) = lit≤ tt

-- words behind one another, with a space in front of each
together : (a b c : List ℕ) → length ((a ++ (32 ∷ (b ++ c))) ++ [])
    ≡ length a + (1 + (length b + length c))
together a b c = omega (
  arith,
  length-append (a ++ (32 ∷ (b ++ c))) [],
  length-append a (32 ∷ (b ++ c)),
  length-append b c,
)

-- so short a line is not cut
line_fits : (count : Count) → AreDigits count.read → AreDigits count.lines
    → length (joined_text (count_parts count)) ≤ 510
line_fits count read lines = fits count.mark
  where
    fits : (mark : Option Mark) → length (joined_text (from_nobody
        (decimal count.read ∷ decimal count.lines ∷ mark_words mark))) ≤ 510
    fits None = omega (
      arith,
      together (decimal count.read) (decimal count.lines) [],
      read.few,
      lines.few,
    )
    fits (Some Set) = omega (
      arith,
      together (decimal count.read) (decimal count.lines)
          (32 ∷ codes "set" ++ []),
      read.few,
      lines.few,
    )

message_read : IsKnown → (count : Count) → IsCount count
    → read_of (line_text (count_parts count)) ≡ Ok (message_of (count_parts count))
message_read known count is =
    let read = known.digits count.read is.read in
    let lines = known.digits count.lines is.lines in
    sym (known.alone (line_text (count_parts count)) (Ok (message_of (count_parts count)))
    (known.written (count_parts count) (parts_plain count read lines)
    (line_fits count read lines)))

count_found : (read lines : ℕ) (mark : Option Mark) → written_number (decimal read) ≡ Some read
    → written_number (decimal lines) ≡ Some lines
    → may_have (record { read = read; lines = lines; mark = mark }) ≡ true
    → count_in (decimal read) (decimal lines) mark
    ≡ Some (record { read = read; lines = lines; mark = mark })
count_found read lines mark many few may =
    ap (option_and_then (λ n. option_and_then (λ m. if_possible (record {
      read = n;
      lines = m;
      mark = mark;
    })) (written_number (decimal lines)))) many
    ∙ ap (option_and_then (λ m. if_possible (record { read = read; lines = m; mark = mark }))) few
    ∙ ap (λ b. if b then Some (record { read = read; lines = lines; mark = mark }) else None) may

mark_found : (mark : Mark) → mark_of (mark_word mark) ≡ Some mark
mark_found Set = refl

words_found : (read lines : ℕ) (mark : Option Mark) → written_number (decimal read) ≡ Some read
    → written_number (decimal lines) ≡ Some lines
    → may_have (record { read = read; lines = lines; mark = mark }) ≡ true
    → count_of_words (decimal read ∷ decimal lines ∷ (mark_words mark ++ []))
    ≡ Some (record { read = read; lines = lines; mark = mark })
words_found read lines None many few may = count_found read lines None many few may
words_found read lines (Some mark) many few may =
    ap (option_and_then (λ m. count_in (decimal read) (decimal lines) (Some m))) (mark_found mark)
    ∙ count_found read lines (Some mark) many few may

words_read : IsKnown → (count : Count) → IsCount count
    → count_of (message_of (count_parts count)) ≡ Some (Ok count)
words_read known count is = ap (λ c. Some (or_parameters c))
    (words_found count.read count.lines count.mark (known.numbers count.read is.read)
    (known.numbers count.lines is.lines) is.may)

pub counts_read : IsKnown → (count : Count) → IsCount count
    → count_line (line_text (count_parts count)) ≡ Some (Ok count)
counts_read known count is =
    ap count_if (message_read known count is) ∙ words_read known count is
