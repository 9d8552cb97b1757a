-- What is known of the words of a line that was read: each stands in the line.
use Rattle.std.proofs.Common.{◌≡◌, ℕ, ◌≤◌, ◌-◌, true, false, ◌&&◌, Result, List, []}
use Rattle.std.proofs.Common.{◌∷◌, ◌++◌, length, refl, sym, ◌∙◌, ap, subst, arith, length-append}
use Rattle.std.specs.List.{list_any, AllByRecursion}
use Rattle.std.specs.Cmp.{first_so, second_so}
use Rattle.std.proofs.lemmas.List.Folds.{list_all-append}
use Rattle.std.proofs.lemmas.Bool.{or_parts}
use Rattle.irc_line.specs.declared.reading.LineFault.{LineFault}
use Rattle.irc_line.specs.Limits.{max_parameters}
use Rattle.irc_line.specs.Bytes.{is_nul, is_line_end, has_nul, colon}
use Rattle.irc_line.specs.Lines.{earlier_pieces}
use Rattle.irc_line.specs.Messages.{Parsed, IsPlainWord}
use Rattle.irc_line.specs.Grammar.{ReadsParams, no_more, behind_colon, the_rest, one_word, Reads}
use Rattle.irc_line.specs.Grammar.{plain, prefixed, IsReadAs}
use Rattle.irc_line.specs.Carried.{is_carried_byte, is_carried, IsCarried, IsWordOf, AreLineWords}
use Rattle.irc_line.specs.Laws.{LinesAreCarried, WordsAreOfTheLine}
use Rattle.irc_line.specs.Lemmas.CarriedBytes.{carried_byte, carried_no_nul}
use Rattle.irc_line.proofs.LinesRead.{every_line_is_read}

bytes_carried : (bytes : List ℕ) → has_nul bytes ≡ false → list_any is_line_end bytes ≡ false
    → IsCarried bytes
bytes_carried [] no_nul no_end = refl
bytes_carried (b ∷ bytes) no_nul no_end =
    let nul = or_parts (is_nul b) (has_nul bytes) no_nul in
    let end = or_parts (is_line_end b) (list_any is_line_end bytes) no_end in
    ap (λ v. v && is_carried bytes) (carried_byte (is_nul b) (is_line_end b) nul.0 end.0)
    ∙ bytes_carried bytes nul.1 end.1

pub lines_are_carried : LinesAreCarried
lines_are_carried line is = bytes_carried line is.no_nul is.no_end

-- what stands in front, and what stands behind
front_of : (line front back text : List ℕ) → text ≡ front ++ back → IsWordOf line text
    → IsWordOf line front
front_of line front back text text_is at =
    let parted : (is_carried front && is_carried back) ≡ true = sym
    (list_all-append is_carried_byte front back) ∙ ap is_carried (sym text_is) ∙ at.carried in
    let long = ap length text_is ∙ length-append front back in
    record {
      fits = let fits = at.fits in omega (arith, long, fits);
      carried = first_so (is_carried front) (is_carried back) parted;
    }

back_of : (line front back text : List ℕ) → text ≡ front ++ back → IsWordOf line text
    → IsWordOf line back
back_of line front back text text_is at =
    let parted : (is_carried front && is_carried back) ≡ true = sym
    (list_all-append is_carried_byte front back) ∙ ap is_carried (sym text_is) ∙ at.carried in
    let long = ap length text_is ∙ length-append front back in
    record {
      fits = let fits = at.fits in omega (arith, long, fits);
      carried = second_so (is_carried front) (is_carried back) parted;
    }

-- the parameters that a text holds which stands in the line
record AreParams (line : List ℕ) (room : ℕ) (params : List (List ℕ)) : Type 0 where
  words : AllByRecursion (IsWordOf line) params
  earlier : AllByRecursion IsPlainWord (earlier_pieces params)
  count : length params ≤ room

one_earlier : (word : List ℕ) (params : List (List ℕ)) → IsPlainWord word
    → AllByRecursion IsPlainWord (earlier_pieces params)
    → AllByRecursion IsPlainWord (earlier_pieces (word ∷ params))
one_earlier word [] is all = tt
one_earlier word (p ∷ params) is all = (is, all)

params_so : (line : List ℕ) (room : ℕ) (text : List ℕ) (params : List (List ℕ)) → 1 ≤ room
    → IsWordOf line text → ReadsParams room text params → AreParams line room params
params_so line room text params some at (no_more r t gap) =
    record { words = tt; earlier = tt; count = omega arith }
params_so line room text params some at (behind_colon r t gap rest gap_is is) =
    let behind = back_of line gap (colon ∷ rest) text is at in
    record {
      words = (back_of line (colon ∷ []) rest (colon ∷ rest) refl behind, tt);
      earlier = tt;
      count = some;
    }
params_so line room text params some at (the_rest r t gap rest one gap_is not_empty none is) =
    record { words = (back_of line gap rest text is at, tt); earlier = tt; count = some }
params_so line room text params some at
    (one_word r t gap word more others fits gap_is not_empty no_space no_colon whole is later) =
    let behind = back_of line gap (word ++ more) text is at in
    let here = front_of line word more (word ++ more) refl behind in
    let rest = params_so line (room - 1) more others (omega arith)
    (back_of line word more (word ++ more) refl behind) later in
    let plain_word : IsPlainWord word = record {
      is_some = not_empty;
      no_space = no_space;
      no_colon = no_colon;
      no_nul = carried_no_nul word here.carried;
    } in
    record {
      words = (here, rest.words);
      earlier = one_earlier word others plain_word rest.earlier;
      count = let count = rest.count in omega (arith, count);
    }

whole_line : (line : List ℕ) → IsCarried line → IsWordOf line line
whole_line line carried = record { fits = omega arith; carried = carried }

pub read_words : (line : List ℕ) (message : Parsed) → IsCarried line → Reads line message
    → AreLineWords line message
read_words line message carried
    (plain l gap text command params no_nul gap_is no_colon line_is at) =
    let here = back_of line gap text line line_is (whole_line line carried) in
    let behind = params_so line max_parameters at.more params (omega arith)
    (back_of line command at.more text at.text_is here) at.params_are in
    record {
      prefix = tt;
      prefix_no_space = tt;
      command = front_of line command at.more text at.text_is here;
      command_some = at.is_some;
      command_no_space = at.no_space;
      params = behind.words;
      earlier_params = behind.earlier;
      count = behind.count;
    }
read_words line message carried (prefixed l gap prefix between text command params no_nul gap_is
    no_space between_is some line_is at) =
    let start = back_of line gap (colon ∷ (prefix ++ (between ++ text))) line line_is
    (whole_line line carried) in
    let named = back_of line (colon ∷ []) (prefix ++ (between ++ text))
    (colon ∷ (prefix ++ (between ++ text))) refl start in
    let here = back_of line between text (between ++ text) refl
    (back_of line prefix (between ++ text) (prefix ++ (between ++ text)) refl named) in
    let behind = params_so line max_parameters at.more params (omega arith)
    (back_of line command at.more text at.text_is here) at.params_are in
    record {
      prefix = front_of line prefix (between ++ text) (prefix ++ (between ++ text)) refl named;
      prefix_no_space = no_space;
      command = front_of line command at.more text at.text_is here;
      command_some = at.is_some;
      command_no_space = at.no_space;
      params = behind.words;
      earlier_params = behind.earlier;
      count = behind.count;
    }

pub words_are_of_the_line : WordsAreOfTheLine
words_are_of_the_line line message carried is =
    read_words line message carried
    (subst (λ (r : Result Parsed LineFault). IsReadAs line r) is (every_line_is_read line))
