-- The body of a text.
use Rattle.std.proofs.Common.{◌≡◌, ℕ, ◌-◌, true, false, cond, List, ◌++◌, length, take, drop, sym}
use Rattle.std.proofs.Common.{refl, ◌∙◌}
use Rattle.std.proofs.lemmas.Bool.Decides.{Decides-eqb}
use Rattle.std.proofs.lemmas.Slice.Eq.{ends_is}
use Rattle.std.specs.Str.{bytes_eq}
use Rattle.irc_line.specs.Bytes.{crlf}
use Rattle.irc_script.specs.Printing.{body_of}

-- what the body of a text is said to be is one thing
pub body_is : (text result : List ℕ) → ((line : List ℕ) → text ≡ line ++ crlf → result ≡ line)
    → (((line : List ℕ) → text ≡ line ++ crlf → ⊥) → result ≡ text) → result ≡ body_of text
body_is text result some none =
    let front = take (length text - 2) text in
    let ends = bytes_eq crlf (drop (length text - 2) text) in
    let facts = ends_is Decides-eqb text crlf ends refl in
    elim ends as (λ b. ends ≡ b → result ≡ cond b front text) [
      | true ↦ λ e. some front (facts.0 e)
      | false ↦ λ e. none (λ line is. let contrary : true ≡ false = sym (facts.1 line is) ∙ e in cc)
    ] refl
