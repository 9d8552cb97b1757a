-- Each step of the reader, in the words of the grammar.
use Rattle.std.proofs.Common.{◌≡◌, ◌≢◌, ℕ, ◌+◌, ◌-◌, ◌<◌, true, false, ◌||◌, ◌&&◌}
use Rattle.std.proofs.Common.{Option, Some, None, List, [], ◌∷◌, ◌++◌, map, length, refl, sym}
use Rattle.std.proofs.Common.{◌∙◌, ap, subst, append_assoc, append-nil, arith, length-append}
use Rattle.std.proofs.Common.{eqb}
use Rattle.std.specs.Borrow.{Bor}
use Rattle.std.specs.List.{list_all}
use Rattle.std.proofs.lemmas.List.{map-append}
use Rattle.std.proofs.lemmas.List.Folds.{list_all-append}
use Rattle.std.proofs.lemmas.Bool.{not_from_false, ne_eqb}
use Rattle.irc_line.specs.Limits.{max_parameters}
use Rattle.irc_line.specs.Bytes.{is_space, is_colon, has_nul, begins, colon}
use Rattle.irc_line.specs.Grammar.{is_word_byte, IsGap, EndsWord, ReadsParams, no_more}
use Rattle.irc_line.specs.Grammar.{behind_colon, the_rest, one_word, CommandAt, Reads, plain}
use Rattle.irc_line.specs.Grammar.{prefixed}
use Rattle.irc_line.specs.Loops.Reading.{AfterGap, WordAt}
use Rattle.irc_line.proofs.ReadingLaws.{message}

two_gaps : (a b : List ℕ) → IsGap a → IsGap b → IsGap (a ++ b)
two_gaps a b a_is b_is =
    list_all-append is_space a b ∙ ap (λ v. v && list_all is_space b) a_is ∙ b_is

behind_gap : (text gap rest inner more : List ℕ) → text ≡ gap ++ rest → rest ≡ inner ++ more
    → text ≡ (gap ++ inner) ++ more
behind_gap text gap rest inner more text_is rest_is = text_is ∙ ap (λ r. gap ++ r) rest_is
    ∙ sym (append_assoc gap inner more)

-- spaces in front make no difference
pub params_behind_gap : (room : ℕ) (text rest : List ℕ) (ps : List (List ℕ)) → AfterGap text rest
    → ReadsParams room rest ps → ReadsParams room text ps
params_behind_gap room text rest ps at (no_more r t gap) =
    no_more room text (ap (list_all is_space) (at.text_is) ∙ two_gaps (at.gap) rest (at.gap_is) gap)
params_behind_gap room text rest ps at (behind_colon r t gap last gap_is is) =
    behind_colon room text (at.gap ++ gap) last (two_gaps (at.gap) gap (at.gap_is) gap_is)
    (behind_gap text (at.gap) rest gap (colon ∷ last) (at.text_is) is)
params_behind_gap room text rest ps at (the_rest r t gap last one gap_is some none is) =
    the_rest room text (at.gap ++ gap) last one (two_gaps (at.gap) gap (at.gap_is) gap_is) some none
    (behind_gap text (at.gap) rest gap last (at.text_is) is)
params_behind_gap room text rest ps at
    (one_word r t gap word more params fits gap_is some no_space no_colon whole is later) =
    one_word room text (at.gap ++ gap) word more params fits
    (two_gaps (at.gap) gap (at.gap_is) gap_is) some no_space no_colon whole
    (behind_gap text (at.gap) rest gap (word ++ more) (at.text_is) is) later

-- The loop over the parameters: what the rest holds completes those of the whole text.

abbrev pub now : List (Bor (List ℕ)) → List (List ℕ)
now items = map (λ p. p.now) items

abbrev pub Completes : List ℕ → List (Bor (List ℕ)) → List ℕ → Type 0
Completes text items rest = (more : List (List ℕ)) → ReadsParams
    (max_parameters - length items) rest more → ReadsParams max_parameters text (now items ++ more)

pub loop_starts : (text rest : List ℕ) (items : List (Bor (List ℕ))) → items ≡ []
    → AfterGap text rest → Completes text items rest
loop_starts text rest items none at =
    subst (λ (xs : List (Bor (List ℕ))). Completes text xs rest) (sym none)
    (λ more reads. params_behind_gap max_parameters text rest more at reads)

pushed : (items new : List (Bor (List ℕ))) (x : Bor (List ℕ)) → new ≡ items ++ x ∷ []
    → now new ≡ now items ++ x.now ∷ []
pushed items new x is = ap now is ∙ map-append (λ p. p.now) items (x ∷ [])

pub colon_ends : (text rest behind : List ℕ) (items new : List (Bor (List ℕ))) (first : ℕ)
    (x : Bor (List ℕ)) → Completes text items rest → rest ≡ first ∷ x.now → first ≡ colon
    → new ≡ items ++ x ∷ [] → ReadsParams max_parameters text (now new)
colon_ends text rest behind items new first x completes rest_is is_colon new_is =
    subst (λ (ps : List (List ℕ)). ReadsParams max_parameters text ps)
    (sym (pushed items new x new_is))
    (completes (x.now ∷ []) (behind_colon (max_parameters - length items) rest [] (x.now) refl
    (rest_is ∙ ap (λ c. c ∷ x.now) is_colon)))

-- the first byte is neither a space nor a colon
pub neither : (b : ℕ) (more : List ℕ) → begins is_space (b ∷ more) ≡ false → (b ≡ colon → ⊥)
    → begins (λ c. is_space c || is_colon c) (b ∷ more) ≡ false
neither b more no_space no_colon = ap (λ v. v || is_colon b) no_space ∙ ne_eqb b colon no_colon

pub rest_ends : (text rest more : List ℕ) (items new : List (Bor (List ℕ))) (first : ℕ)
    (x : Bor (List ℕ)) → Completes text items rest → begins is_space rest ≡ false
    → rest ≡ first ∷ more → (first ≡ colon → ⊥) → length items + 1 ≡ max_parameters → x.now ≡ rest
    → new ≡ items ++ x ∷ [] → ReadsParams max_parameters text (now new)
rest_ends text rest more items new first x completes no_space rest_is no_colon last x_is new_is =
    let begins_none =
    subst (λ (r : List ℕ). begins (λ c. is_space c || is_colon c) r ≡ false) (sym rest_is)
    (neither first more (ap (begins is_space) (sym rest_is) ∙ no_space) no_colon) in
    let some : rest ≢ [] = λ none. let never : first ∷ more ≡ [] = sym rest_is ∙ none in cc never in
    let one : max_parameters - length items ≡ 1 = omega (arith, last) in
    subst (λ (ps : List (List ℕ)). ReadsParams max_parameters text ps)
    (sym (pushed items new x new_is ∙ ap (λ r. now items ++ r ∷ []) x_is))
    (completes (rest ∷ [])
    (the_rest (max_parameters - length items) rest [] rest one refl some begins_none refl))

-- the word at the front of a text that begins with neither a space nor a colon
pub some_word : (first : ℕ) (behind word more : List ℕ) → begins is_space (first ∷ behind) ≡ false
    → EndsWord more → first ∷ behind ≡ word ++ more → word ≢ []
some_word first behind word more no_space ends is none =
    let more_is : first ∷ behind ≡ more = is ∙ ap (λ w. w ++ more) none in
    let never : true ≡ false =
    sym (not_from_false (is_space first) no_space) ∙ ap (begins is_word_byte) more_is ∙ ends in
    cc never

pub word_no_colon : (first : ℕ) (behind word more : List ℕ) → word ≢ []
    → first ∷ behind ≡ word ++ more → (first ≡ colon → ⊥) → begins is_colon word ≡ false
word_no_colon first behind [] more some is no_colon = absurd (some refl)
word_no_colon first behind (b ∷ word) more some is no_colon =
    let same : first ≡ b = cc is in
    ne_eqb b colon (λ b_is. no_colon (same ∙ b_is))

-- one parameter more
pub word_goes_on : (text rest behind more next : List ℕ) (items new : List (Bor (List ℕ)))
    (first : ℕ) (x : Bor (List ℕ)) → Completes text items rest → begins is_space rest ≡ false
    → rest ≡ first ∷ behind → (first ≡ colon → ⊥) → length items + 1 < max_parameters → WordAt rest
    (x.now) more → AfterGap more next → new ≡ items ++ x ∷ [] → Completes text new next
word_goes_on text rest behind more next items new first x completes no_space rest_is no_colon room
    at gap new_is = λ later reads.
    let front : begins is_space (first ∷ behind) ≡ false = ap (begins is_space) (sym rest_is)
    ∙ no_space in
    let is : first ∷ behind ≡ x.now ++ more = sym rest_is ∙ at.text_is in
    let some = some_word first behind (x.now) more front (at.whole) is in
    let left : max_parameters - length new ≡ (max_parameters - length items) - 1 =
    ap (λ (xs : List (Bor (List ℕ))). max_parameters - length xs) new_is
    ∙ omega (arith, length-append {A = Bor (List ℕ)} items (x ∷ [])) in
    let behind_word = params_behind_gap ((max_parameters - length items) - 1) more next later gap
    (subst (λ (n : ℕ). ReadsParams n next later) left reads) in
    let all = completes (x.now ∷ later) (one_word (max_parameters - length items) rest []
    (x.now) more later (omega arith) refl some (at.no_space)
    (word_no_colon first behind (x.now) more some is no_colon) (at.whole) (at.text_is) behind_word)
    in
    subst (λ (ps : List (List ℕ)). ReadsParams max_parameters text ps)
    (sym (ap (λ ps. ps ++ later) (pushed items new x new_is)
    ∙ append_assoc (now items) (x.now ∷ []) later)) all

-- nothing is left
pub no_more_comes : (text rest : List ℕ) (items : List (Bor (List ℕ))) → Completes text items rest
    → rest ≡ [] → ReadsParams max_parameters text (now items)
no_more_comes text rest items completes none =
    subst (λ (ps : List (List ℕ)). ReadsParams max_parameters text ps) (append-nil (now items))
    (completes [] (no_more (max_parameters - length items) rest (ap (list_all is_space) none)))

-- The two kinds of line.

gap_missing : (more text : List ℕ) → EndsWord more → begins is_space text ≡ false → text ≢ []
    → more ≡ text → ⊥
gap_missing more [] ends no_space some same = some refl
gap_missing more (b ∷ text) ends no_space some same =
    let never : true ≡ false =
    sym (not_from_false (is_space b) no_space) ∙ ap (begins is_word_byte) (sym same) ∙ ends in
    cc never

pub plain_line : (line text behind command : List ℕ) (first : ℕ) (ps : List (List ℕ))
    (prefix : Option (List ℕ)) → prefix ≡ None → has_nul line ≡ false → AfterGap line text
    → text ≡ first ∷ behind → (first ≡ colon → ⊥) → CommandAt text command ps
    → Reads line (message prefix command ps)
plain_line line text behind command first ps prefix none no_nul at text_is no_colon command_at =
    subst (λ (p : Option (List ℕ)). Reads line (message p command ps)) (sym none)
    (plain line (at.gap) text command ps no_nul (at.gap_is)
    (ap (begins is_colon) text_is ∙ ne_eqb first colon no_colon) (at.text_is) command_at)

pub prefixed_line : (line start behind prefix more text command : List ℕ)
    (first : ℕ) (ps : List (List ℕ)) (found : Option (List ℕ)) → found ≡ Some prefix
    → has_nul line ≡ false → AfterGap line start → start ≡ first ∷ behind → first ≡ colon
    → WordAt behind prefix more → AfterGap more text → text ≢ [] → CommandAt text command ps
    → Reads line (message found command ps)
prefixed_line line start behind prefix more text command first ps found found_is no_nul at start_is
    is_colon prefix_at text_at some command_at =
    let between_some : text_at.gap ≢ [] = λ none. gap_missing more text (prefix_at.whole)
    (text_at.no_space) some (text_at.text_is ∙ ap (λ g. g ++ text) none) in
    let line_is = at.text_is ∙ ap (λ r. at.gap ++ r) (start_is ∙ ap (λ c. c ∷ behind) is_colon)
    ∙ ap (λ r. at.gap ++ (colon ∷ r)) (prefix_at.text_is ∙ ap (λ r. prefix ++ r) (text_at.text_is))
    in
    subst (λ (p : Option (List ℕ)). Reads line (message p command ps)) (sym found_is)
    (prefixed line (at.gap) prefix (text_at.gap) text command ps no_nul (at.gap_is)
    (prefix_at.no_space) (text_at.gap_is) between_some line_is command_at)

pub not_empty : (xs : List ℕ) → eqb (length xs) 0 ≡ false → xs ≢ []
not_empty [] some none = cc some
not_empty (x ∷ xs) some none = cc none
