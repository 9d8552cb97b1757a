-- A line is read in one way.
use Rattle.std.proofs.Common.{◌≡◌, ◌≢◌, ℕ, ◌-◌, Bool, true, false, ◌||◌, not, Option, Some}
use Rattle.std.proofs.Common.{None, Result, Ok, Err, List, [], ◌∷◌, ◌++◌, refl, sym, ◌∙◌, ap, subst}
use Rattle.std.proofs.Common.{append-nil, arith}
use Rattle.std.specs.List.{list_all}
use Rattle.std.proofs.lemmas.Bool.{not-true, and_parts}
use Rattle.irc_line.specs.declared.reading.LineFault.{LineFault}
use Rattle.irc_line.specs.declared.reading.LineFault.TheVariants.{Empty, NoCommand, HasNul}
use Rattle.irc_line.specs.Limits.{max_parameters}
use Rattle.irc_line.specs.Bytes.{is_space, is_colon, has_nul, begins, colon}
use Rattle.irc_line.specs.Messages.{Parsed}
use Rattle.irc_line.specs.Grammar.{is_word_byte, IsGap, HasNoSpace, EndsWord, ReadsParams, no_more}
use Rattle.irc_line.specs.Grammar.{behind_colon, the_rest, one_word, CommandAt, Reads, plain}
use Rattle.irc_line.specs.Grammar.{prefixed, IsPrefixAlone, IsReadAs}

-- the longest front whose bytes pass is one
record SameCut (a b x y : List ℕ) : Type 0 where
  front : a ≡ b
  rest : x ≡ y

one_cut : (p : ℕ → Bool) (a b x y : List ℕ) → list_all p a ≡ true → list_all p b ≡ true
    → begins p x ≡ false → begins p y ≡ false → a ++ x ≡ b ++ y → SameCut a b x y
one_cut p [] [] x y a_all b_all x_not y_not same = record { front = refl; rest = same }
one_cut p [] (b ∷ other) x y a_all b_all x_not y_not same =
    let first : p b ≡ false = ap (begins p) (sym same) ∙ x_not in
    let passes : p b ≡ true = (and_parts (p b) (list_all p other) b_all).0 in
    cc (first, passes)
one_cut p (a ∷ front) [] x y a_all b_all x_not y_not same =
    let first : p a ≡ false = ap (begins p) same ∙ y_not in
    let passes : p a ≡ true = (and_parts (p a) (list_all p front) a_all).0 in
    cc (first, passes)
one_cut p (a ∷ front) (b ∷ other) x y a_all b_all x_not y_not same =
    let rest_same : front ++ x ≡ other ++ y = cc same in
    let first_same : a ≡ b = cc same in
    let more = one_cut p front other x y ((and_parts (p a) (list_all p front) a_all).1)
    ((and_parts (p b) (list_all p other) b_all).1) x_not y_not rest_same in
    record {
      front = ap (λ c. c ∷ front) first_same ∙ ap (λ cs. b ∷ cs) (more.front);
      rest = more.rest;
    }

-- a word is no gap, and begins with no space
word_begins : (word more : List ℕ) → word ≢ [] → HasNoSpace word
    → begins is_space (word ++ more) ≡ false
word_begins [] more some no_space = absurd (some refl)
word_begins (b ∷ word) more some no_space =
    not-true (is_space b) ((and_parts (not (is_space b)) (list_all is_word_byte word) no_space).0)

-- What stands behind the spaces at the front of the parameters.
record Start (text : List ℕ) : Type 0 where
  gap : List ℕ
  start : List ℕ
  gap_is : IsGap gap
  no_space : begins is_space start ≡ false
  text_is : text ≡ gap ++ start

same_start : (text : List ℕ) (a b : Start text) → a.start ≡ b.start
same_start text a b =
    (one_cut is_space (a.gap) (b.gap) (a.start) (b.start) (a.gap_is) (b.gap_is) (a.no_space)
    (b.no_space) (sym (a.text_is) ∙ b.text_is)).rest

first_of_two : (p q : ℕ → Bool) (bytes : List ℕ) → begins (λ b. p b || q b) bytes ≡ false
    → begins p bytes ≡ false
first_of_two p q [] none = refl
first_of_two p q (b ∷ bytes) none = elim (p b) as (λ a. (a || q b) ≡ false
    → a ≡ false) [ true ↦ λ (h : true ≡ false). h | false ↦ λ _. refl ] none

second_of_two : (p q : ℕ → Bool) (bytes : List ℕ) → begins (λ b. p b || q b) bytes ≡ false
    → begins q bytes ≡ false
second_of_two p q [] none = refl
second_of_two p q (b ∷ bytes) none = elim (p b) as (λ a. (a || q b) ≡ false
    → q b ≡ false) [ true ↦ λ (h : true ≡ false). cc h | false ↦ λ (h : q b ≡ false). h ] none

abbrev nothing_starts : (text : List ℕ) → IsGap text → Start text
nothing_starts text gap = record {
  gap = text;
  start = [];
  gap_is = gap;
  no_space = refl;
  text_is = sym (append-nil text);
}

abbrev colon_starts : (text gap rest : List ℕ) → IsGap gap → text ≡ gap ++ colon ∷ rest → Start text
colon_starts text gap rest gap_is is =
    record { gap = gap; start = colon ∷ rest; gap_is = gap_is; no_space = refl; text_is = is }

abbrev rest_starts : (text gap rest : List ℕ) → IsGap gap
    → begins (λ b. is_space b || is_colon b) rest ≡ false → text ≡ gap ++ rest → Start text
rest_starts text gap rest gap_is none is = record {
  gap = gap;
  start = rest;
  gap_is = gap_is;
  no_space = first_of_two is_space is_colon rest none;
  text_is = is;
}

abbrev word_starts : (text gap word more : List ℕ) → IsGap gap → word ≢ [] → HasNoSpace word
    → text ≡ gap ++ (word ++ more) → Start text
word_starts text gap word more gap_is some no_space is =
    record {
      gap = gap;
      start = word ++ more;
      gap_is = gap_is;
      no_space = word_begins word more some no_space;
      text_is = is;
    }

-- what a colon begins, nothing else does
begins_word : (word more : List ℕ) → word ≢ [] → begins is_colon word ≡ false
    → begins is_colon (word ++ more) ≡ false
begins_word [] more some none = absurd (some refl)
begins_word (b ∷ word) more some none = none

nil_word : (word more : List ℕ) → word ≢ [] → word ++ more ≡ [] → ⊥
nil_word [] more some none = some refl
nil_word (b ∷ word) more some none = cc none

starts_with_colon : (rest other : List ℕ) → colon ∷ rest ≡ other → begins is_colon other ≡ false → ⊥
starts_with_colon rest other same none =
    let is : true ≡ false = ap (begins is_colon) same ∙ none in cc is

-- the parameters of a text are one list
params_are_one : (room : ℕ) (text : List ℕ) (ps qs : List (List ℕ)) → ReadsParams room text ps
    → ReadsParams room text qs → ps ≡ qs
params_are_one room text ps qs (no_more r t gap) (no_more r' t' gap') = refl
params_are_one room text ps qs (no_more r t gap) (behind_colon r' t' g rest g_is is) =
    let same =
    same_start text (nothing_starts text gap) (colon_starts text g rest g_is is) in cc same
params_are_one room text ps qs (no_more r t gap) (the_rest r' t' g rest one g_is some none is) =
    let same = same_start text (nothing_starts text gap) (rest_starts text g rest g_is none is) in
    absurd (some (sym same))
params_are_one room text ps qs (no_more r t gap)
    (one_word r' t' g word more params fits g_is some no_space no_colon whole is later) =
    let same = same_start text (nothing_starts text gap)
    (word_starts text g word more g_is some no_space is) in
    absurd (nil_word word more some (sym same))
params_are_one room text ps qs (behind_colon r t g rest g_is is) (no_more r' t' gap) =
    let same =
    same_start text (nothing_starts text gap) (colon_starts text g rest g_is is) in cc same
params_are_one room text ps qs (behind_colon r t g rest g_is is)
    (behind_colon r' t' g' rest' g_is' is') =
    let same : colon ∷ rest ≡ colon ∷ rest' = same_start text (colon_starts text g rest g_is is)
    (colon_starts text g' rest' g_is' is') in cc same
params_are_one room text ps qs (behind_colon r t g rest g_is is)
    (the_rest r' t' g' rest' one g_is' some none is') =
    let same = same_start text (colon_starts text g rest g_is is)
    (rest_starts text g' rest' g_is' none is') in
    absurd (starts_with_colon rest rest' same (second_of_two is_space is_colon rest' none))
params_are_one room text ps qs (behind_colon r t g rest g_is is)
    (one_word r' t' g' word more params fits g_is' some no_space no_colon whole is' later) =
    let same = same_start text (colon_starts text g rest g_is is)
    (word_starts text g' word more g_is' some no_space is') in
    absurd (starts_with_colon rest (word ++ more) same (begins_word word more some no_colon))
params_are_one room text ps qs (the_rest r t g rest one g_is some none is) (no_more r' t' gap) =
    let same = same_start text (nothing_starts text gap) (rest_starts text g rest g_is none is) in
    absurd (some (sym same))
params_are_one room text ps qs (the_rest r t g rest one g_is some none is)
    (behind_colon r' t' g' rest' g_is' is') =
    let same = same_start text (colon_starts text g' rest' g_is' is')
    (rest_starts text g rest g_is none is) in
    absurd (starts_with_colon rest' rest same (second_of_two is_space is_colon rest none))
params_are_one room text ps qs (the_rest r t g rest one g_is some none is)
    (the_rest r' t' g' rest' one' g_is' some' none' is') =
    ap (λ q. q ∷ []) (same_start text (rest_starts text g rest g_is none is)
    (rest_starts text g' rest' g_is' none' is'))
params_are_one room text ps qs (the_rest r t g rest one g_is some none is)
    (one_word r' t' g' word more params fits g_is' some' no_space no_colon whole is' later) =
    absurd (omega arith)
params_are_one room text ps qs (one_word r t g word more params fits g_is some no_space no_colon
    whole is later) (no_more r' t' gap) =
    let same = same_start text (nothing_starts text gap)
    (word_starts text g word more g_is some no_space is) in
    absurd (nil_word word more some (sym same))
params_are_one room text ps qs (one_word r t g word more params fits g_is some no_space no_colon
    whole is later) (behind_colon r' t' g' rest' g_is' is') =
    let same = same_start text (colon_starts text g' rest' g_is' is')
    (word_starts text g word more g_is some no_space is) in
    absurd (starts_with_colon rest' (word ++ more) same (begins_word word more some no_colon))
params_are_one room text ps qs (one_word r t g word more params fits g_is some no_space no_colon
    whole is later) (the_rest r' t' g' rest' one' g_is' some' none' is') =
    absurd (omega arith)
params_are_one room text ps qs
    (one_word r t g word more params fits g_is some no_space no_colon whole is later) (one_word r'
    t' g' word' more' params' fits' g_is' some' no_space' no_colon' whole' is' later') =
    let same = same_start text (word_starts text g word more g_is some no_space is)
    (word_starts text g' word' more' g_is' some' no_space' is') in
    let cut = one_cut is_word_byte word word' more more' no_space no_space' whole whole' same in
    let rest = params_are_one (room - 1) more params params' later
    (subst (λ (m : List ℕ). ReadsParams (room - 1) m params') (sym (cut.rest)) later') in
    ap (λ w. w ∷ params) (cut.front) ∙ ap (λ qs. word' ∷ qs) rest

-- the command at the front of a text, and its parameters, are one
record SameCommand (command other : List ℕ) (ps qs : List (List ℕ)) : Type 0 where
  command_is : command ≡ other
  params_are : ps ≡ qs

command_is_one : (text command other : List ℕ) (ps qs : List (List ℕ)) → CommandAt text command ps
    → CommandAt text other qs → SameCommand command other ps qs
command_is_one text command other ps qs a b =
    let cut = one_cut is_word_byte command other (a.more) (b.more) (a.no_space) (b.no_space)
    (a.whole) (b.whole) (sym (a.text_is) ∙ b.text_is) in
    record {
      command_is = cut.front;
      params_are = params_are_one max_parameters (a.more) ps qs (a.params_are)
          (subst (λ (m : List ℕ). ReadsParams max_parameters m qs) (sym (cut.rest)) (b.params_are));
    }

command_begins : (text command : List ℕ) (ps : List (List ℕ)) → CommandAt text command ps
    → begins is_space text ≡ false
command_begins text command ps at =
    ap (begins is_space) (at.text_is) ∙ word_begins command (at.more) (at.is_some) (at.no_space)

command_is_some : (text command : List ℕ) (ps : List (List ℕ)) → CommandAt text command ps
    → text ≢ []
command_is_some text command ps at none =
    nil_word command (at.more) (at.is_some) (sym (at.text_is) ∙ none)

-- what follows a prefix begins with a space, or is nothing
gap_is_no_word : (between text : List ℕ) → IsGap between → between ≢ [] → EndsWord (between ++ text)
gap_is_no_word [] text gap some = absurd (some refl)
gap_is_no_word (b ∷ between) text gap some =
    ap not ((and_parts (is_space b) (list_all is_space between) gap).0)

gap_alone_is_no_word : (after : List ℕ) → IsGap after → EndsWord after
gap_alone_is_no_word [] gap = refl
gap_alone_is_no_word (b ∷ after) gap =
    ap not ((and_parts (is_space b) (list_all is_space after) gap).0)

-- the prefix and what follows it
prefix_is_one : (prefix other after later : List ℕ) → HasNoSpace prefix → HasNoSpace other
    → EndsWord after → EndsWord later → colon ∷ (prefix ++ after) ≡ colon ∷ (other ++ later)
    → SameCut prefix other after later
prefix_is_one prefix other after later p_is o_is a_ends l_ends same =
    let behind : prefix ++ after ≡ other ++ later = cc same in
    one_cut is_word_byte prefix other after later p_is o_is a_ends l_ends behind

abbrev line_start : (line gap text : List ℕ) → IsGap gap → begins is_space text ≡ false
    → line ≡ gap ++ text → Start line
line_start line gap text gap_is none is =
    record { gap = gap; start = text; gap_is = gap_is; no_space = none; text_is = is }

abbrev pub message : Option (List ℕ) → List ℕ → List (List ℕ) → Parsed
message prefix command params = record { prefix = prefix; command = command; params = params }

-- a line is read as one message
reads_one : (line : List ℕ) (m n : Parsed) → Reads line m → Reads line n → m ≡ n
reads_one line m n (plain l gap text command ps no_nul gap_is no_colon is at)
    (plain l' gap' text' command' qs no_nul' gap_is' no_colon' is' at') =
    let same : text ≡ text' =
    same_start line (line_start line gap text gap_is (command_begins text command ps at) is)
    (line_start line gap' text' gap_is' (command_begins text' command' qs at') is') in
    let one = command_is_one text command command' ps qs at
    (subst (λ (t : List ℕ). CommandAt t command' qs) (sym same) at') in
    ap (λ c. message None c ps) (one.command_is) ∙ ap (message None command') (one.params_are)
reads_one line m n (plain l gap text command ps no_nul gap_is no_colon is at) (prefixed l' gap'
    prefix between text' command' qs no_nul' gap_is' prefix_is between_is between_some is' at') =
    let same : text ≡ colon ∷ (prefix ++ (between ++ text')) =
    same_start line (line_start line gap text gap_is (command_begins text command ps at) is)
    (line_start line gap' (colon ∷ (prefix ++ (between ++ text'))) gap_is' refl is') in
    absurd (starts_with_colon (prefix ++ (between ++ text')) text (sym same) no_colon)
reads_one line m n (prefixed l' gap' prefix between text' command' qs no_nul' gap_is' prefix_is
    between_is between_some is' at') (plain l gap text command ps no_nul gap_is no_colon is at) =
    let same : text ≡ colon ∷ (prefix ++ (between ++ text')) =
    same_start line (line_start line gap text gap_is (command_begins text command ps at) is)
    (line_start line gap' (colon ∷ (prefix ++ (between ++ text'))) gap_is' refl is') in
    absurd (starts_with_colon (prefix ++ (between ++ text')) text (sym same) no_colon)
reads_one line m n (prefixed l gap prefix between text command ps no_nul gap_is prefix_is between_is
    between_some is at) (prefixed l' gap' prefix' between' text' command' qs no_nul' gap_is'
    prefix_is' between_is' between_some' is' at') =
    let same : colon ∷ (prefix ++ (between ++ text)) ≡ colon ∷ (prefix' ++ (between' ++ text')) =
    same_start line (line_start line gap (colon ∷ (prefix ++ (between ++ text))) gap_is refl is)
    (line_start line gap' (colon ∷ (prefix' ++ (between' ++ text'))) gap_is' refl is') in
    let cut =
    prefix_is_one prefix prefix' (between ++ text) (between' ++ text') prefix_is prefix_is'
    (gap_is_no_word between text between_is between_some)
    (gap_is_no_word between' text' between_is' between_some') same in
    let behind = one_cut is_space between between' text text' between_is between_is'
    (command_begins text command ps at) (command_begins text' command' qs at') (cut.rest) in
    let one = command_is_one text command command' ps qs at
    (subst (λ (t : List ℕ). CommandAt t command' qs) (sym (behind.rest)) at') in
    ap (λ p. message (Some p) command ps) (cut.front)
    ∙ ap (λ c. message (Some prefix') c ps) (one.command_is)
    ∙ ap (message (Some prefix') command') (one.params_are)

reads_no_nul : (line : List ℕ) (m : Parsed) → Reads line m → has_nul line ≡ false
reads_no_nul line m (plain l gap text command ps no_nul gap_is no_colon is at) = no_nul
reads_no_nul line m (prefixed l gap prefix between text command ps no_nul gap_is prefix_is
    between_is between_some is at) = no_nul

reads_no_gap : (line : List ℕ) (m : Parsed) → Reads line m → IsGap line → ⊥
reads_no_gap line m (plain l gap text command ps no_nul gap_is no_colon is at) all =
    let same : [] ≡ text = same_start line (nothing_starts line all)
    (line_start line gap text gap_is (command_begins text command ps at) is) in
    command_is_some text command ps at (sym same)
reads_no_gap line m (prefixed l gap prefix between text command ps no_nul gap_is prefix_is
    between_is between_some is at) all =
    let same : [] ≡ colon ∷ (prefix ++ (between ++ text)) =
    same_start line (nothing_starts line all)
    (line_start line gap (colon ∷ (prefix ++ (between ++ text))) gap_is refl is) in
    cc same

abbrev prefix_alone_starts : (line : List ℕ) → IsPrefixAlone line → Start line
prefix_alone_starts line alone = line_start line (alone.gap) (colon ∷ (alone.prefix ++ alone.after))
    (alone.gap_is) refl (alone.line_is)

reads_no_prefix_alone : (line : List ℕ) (m : Parsed) → Reads line m → IsPrefixAlone line → ⊥
reads_no_prefix_alone line m (plain l gap text command ps no_nul gap_is no_colon is at) alone =
    let same : colon ∷ (alone.prefix ++ alone.after) ≡ text =
    same_start line (prefix_alone_starts line alone)
    (line_start line gap text gap_is (command_begins text command ps at) is) in
    starts_with_colon (alone.prefix ++ alone.after) text same no_colon
reads_no_prefix_alone line m (prefixed l gap prefix between text command ps no_nul gap_is prefix_is
    between_is between_some is at) alone =
    let same : colon ∷ (prefix ++ (between ++ text)) ≡ colon ∷ (alone.prefix ++ alone.after) =
    same_start line (line_start line gap (colon ∷ (prefix ++ (between ++ text))) gap_is refl is)
    (prefix_alone_starts line alone) in
    let cut = prefix_is_one prefix (alone.prefix) (between ++ text) (alone.after) prefix_is
    (alone.prefix_is)
    (gap_is_no_word between text between_is between_some)
    (gap_alone_is_no_word (alone.after) (alone.after_is)) same in
    let behind = one_cut is_space between (alone.after) text [] between_is (alone.after_is)
    (command_begins text command ps at) refl
    (cut.rest ∙ sym (append-nil (alone.after))) in
    command_is_some text command ps at (behind.rest)

gap_no_prefix_alone : (line : List ℕ) → IsGap line → IsPrefixAlone line → ⊥
gap_no_prefix_alone line all alone =
    let same : [] ≡ colon ∷ (alone.prefix ++ alone.after) =
    same_start line (nothing_starts line all) (prefix_alone_starts line alone) in
    cc same

-- a line is read in one way
pub read_as_one : (line : List ℕ) (a b : Result Parsed LineFault) → IsReadAs line a
    → IsReadAs line b → a ≡ b
read_as_one line (Ok m) (Ok n) x y = ap Ok (reads_one line m n x y)
read_as_one line (Ok m) (Err HasNul) x y = let never : false ≡ true = sym (reads_no_nul line m x)
    ∙ y in cc never
read_as_one line (Ok m) (Err Empty) x y = absurd (reads_no_gap line m x (y.1))
read_as_one line (Ok m) (Err NoCommand) x y = absurd (reads_no_prefix_alone line m x (y.1))
read_as_one line (Err HasNul) (Ok n) x y = let never : false ≡ true = sym (reads_no_nul line n y)
    ∙ x in cc never
read_as_one line (Err HasNul) (Err HasNul) x y = refl
read_as_one line (Err HasNul) (Err Empty) x y = let never : false ≡ true = sym (y.0) ∙ x in cc never
read_as_one line (Err HasNul) (Err NoCommand) x y = let never : false ≡ true = sym (y.0) ∙ x in
    cc never
read_as_one line (Err Empty) (Ok n) x y = absurd (reads_no_gap line n y (x.1))
read_as_one line (Err Empty) (Err HasNul) x y = let never : false ≡ true = sym (x.0) ∙ y in cc never
read_as_one line (Err Empty) (Err Empty) x y = refl
read_as_one line (Err Empty) (Err NoCommand) x y = absurd (gap_no_prefix_alone line (x.1) (y.1))
read_as_one line (Err NoCommand) (Ok n) x y = absurd (reads_no_prefix_alone line n y (x.1))
read_as_one line (Err NoCommand) (Err HasNul) x y = let never : false ≡ true = sym (x.0) ∙ y in
    cc never
read_as_one line (Err NoCommand) (Err Empty) x y = absurd (gap_no_prefix_alone line (y.1) (x.1))
read_as_one line (Err NoCommand) (Err NoCommand) x y = refl
