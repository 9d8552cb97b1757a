-- What is known of a word by the command that it is, or by that it is none.
use Rattle.std.proofs.Common.{◌≡◌, ℕ, Bool, true, false, ◌||◌, cond, Some, None, unwrap_or}
use Rattle.std.proofs.Common.{List, [], ◌∷◌, ◌++◌, map, refl, sym, ◌∙◌, ap}
use Rattle.std.proofs.lemmas.Slice.Eq.{bytes_eq-Decides}
use Rattle.std.specs.Char.{to_ascii_lowercase}
use Rattle.std.specs.List.{find, list_any}
use Rattle.irc_link_words.specs.declared.commands.LinkCommand.{LinkCommand}
use Rattle.irc_link_words.specs.Commands.{command_of, commands, name_of}
use Rattle.irc_link_words.specs.Words.{is_command}

-- what is found passes
found_passes : {A : Type 0} (test : A → Bool) (xs : List A) (x : A) → find test xs ≡ Some x
    → test x ≡ true
found_passes test [] x is = cc is
found_passes test (first ∷ xs) x is = by (test first) refl is (found_passes test xs x)
  where
    by : (b : Bool) → test first ≡ b → cond b (Some first) (find test xs) ≡ Some x
        → (find test xs ≡ Some x → test x ≡ true) → test x ≡ true
    by true so is later = ap (λ o. test (unwrap_or o first)) (sym is) ∙ so
    by false so is later = later is

-- a word that is a command has the letters of its name
pub letters_of_command : (word : List ℕ) (command : LinkCommand) → command_of word ≡ Some command
    → map to_ascii_lowercase word ≡ map to_ascii_lowercase (name_of command)
letters_of_command word command is =
    (bytes_eq-Decides (map to_ascii_lowercase word) (map to_ascii_lowercase (name_of command))).0
    (found_passes (λ command. is_command (name_of command) word) commands command is)

-- ---- no command

module _ {A : Type 0} (name : A → List ℕ) (word : List ℕ) where
  abbrev is_name : List ℕ → Bool
  is_name other = is_command other word

  none_named : (rows : List A) → find (λ row. is_command (name row) word) rows ≡ None
      → list_any is_name (map name rows) ≡ false
  none_named [] is = refl
  none_named (first ∷ rows) is = by (is_name (name first)) is (none_named rows)
    where
      by : (b : Bool) → cond b (Some first) (find (λ row. is_command (name row) word) rows) ≡ None
          → (find (λ row. is_command (name row) word) rows ≡ None → list_any is_name (map name rows)
          ≡ false) → (b || list_any is_name (map name rows)) ≡ false
      by true is later = cc is
      by false is later = later is

  none_found : (rows : List A) → list_any is_name (map name rows) ≡ false
      → find (λ row. is_command (name row) word) rows ≡ None
  none_found [] is = refl
  none_found (first ∷ rows) is = by (is_name (name first)) is (none_found rows)
    where
      by : (b : Bool) → (b || list_any is_name (map name rows)) ≡ false → (list_any is_name
          (map name rows) ≡ false → find (λ row. is_command (name row) word) rows ≡ None)
          → cond b (Some first) (find (λ row. is_command (name row) word) rows) ≡ None
      by true is later = cc is
      by false is later = later is

none_in_front : (test : List ℕ → Bool) (front behind : List (List ℕ))
    → list_any test (front ++ behind) ≡ false → list_any test front ≡ false
none_in_front test [] behind is = refl
none_in_front test (first ∷ front) behind is = by (test first) is (none_in_front test front behind)
  where
    by : (b : Bool) → (b || list_any test (front ++ behind)) ≡ false
        → (list_any test (front ++ behind) ≡ false → list_any test front ≡ false)
        → (b || list_any test front) ≡ false
    by true is later = cc is
    by false is later = later is

none_behind : (test : List ℕ → Bool) (front behind : List (List ℕ))
    → list_any test (front ++ behind) ≡ false → list_any test behind ≡ false
none_behind test [] behind is = is
none_behind test (first ∷ front) behind is = by (test first) is (none_behind test front behind)
  where
    by : (b : Bool) → (b || list_any test (front ++ behind)) ≡ false
        → (list_any test (front ++ behind) ≡ false → list_any test behind ≡ false)
        → list_any test behind ≡ false
    by true is later = cc is
    by false is later = later is

-- A word that is no command is none of a table whose names are some of those of all commands.
pub no_row_of : {A : Type 0} (name : A → List ℕ) (front : List (List ℕ))
    (rows : List A) (behind : List (List ℕ)) (word : List ℕ)
    → map name_of commands ≡ front ++ (map name rows ++ behind) → command_of word ≡ None
    → find (λ row. is_command (name row) word) rows ≡ None
no_row_of name front rows behind word all is =
    let test : List ℕ → Bool = λ other. is_command other word in
    none_found name word rows
    (none_in_front test (map name rows) behind
    (none_behind test front (map name rows ++ behind)
    (sym (ap (list_any test) all) ∙ none_named name_of word commands is)))
