-- A line with more words than an introduction has is none.
use Rattle.std.proofs.Common.{◌≡◌, ℕ, List, [], ◌∷◌, None, Result, Ok, Err, IsErrAnd, sym, ap, ◌∙◌}
use Rattle.irc_batch.specs.declared.close_reason.CloseReason.{CloseReason}
use Rattle.irc_link_words.specs.Params.{end_of}
use Rattle.irc_link_reader.specs.Means.{nick_line}
use Rattle.irc_link_reader.specs.declared.reading_users.IntroductionWords.{IntroductionWords}
use Rattle.irc_link_reader.specs.Loops.Readings.{IsNewcomer, first_effect}
use Rattle.irc_link_reader.specs.Reader.{Reader}

pub longer : (nick distance user host token mode real : List ℕ) (more words : List (List ℕ))
    (reason : CloseReason) → words ≡ nick ∷ distance ∷ user ∷ host ∷ token ∷ mode ∷ real ∷ more
    → Err reason ≡ end_of more → (reader : Reader)
    → Err reason ≡ first_effect (nick_line reader None words)
longer nick distance user host token mode real [] words reason is ended reader = cc ended
longer nick distance user host token mode real (one ∷ more) words reason is ended reader =
    same reason ended ∙ ap (λ ws. first_effect (nick_line reader None ws)) (sym is)
  where
    same : (reason : CloseReason) → Err reason ≡ end_of (one ∷ more) → Err reason ≡ first_effect
        (nick_line reader None (nick ∷ distance ∷ user ∷ host ∷ token ∷ mode ∷ real ∷ one ∷ more))
    same reason ended = cc ended

-- the words behind the seven are refused
pub refused : (words w1 w2 w3 w4 w5 w6 more : List (List ℕ))
    (nick distance user host token mode real : List ℕ) (given : CloseReason)
    (result : Result IntroductionWords CloseReason) → words ≡ nick ∷ w1 → w1 ≡ distance ∷ w2
    → w2 ≡ user ∷ w3 → w3 ≡ host ∷ w4 → w4 ≡ token ∷ w5 → w5 ≡ mode ∷ w6 → w6 ≡ real ∷ more
    → Err given ≡ end_of more → IsErrAnd result (λ e. e ≡ given) → IsNewcomer words result
refused words w1 w2 w3 w4 w5 w6 more nick distance user host token mode real given (Ok w)
    is1 is2 is3 is4 is5 is6 is7 ended is = absurd is
refused words w1 w2 w3 w4 w5 w6 more nick distance user host token mode real given (Err e)
    is1 is2 is3 is4 is5 is6 is7 ended is =
    λ reader. ap Err is
    ∙ longer nick distance user host token mode real more words given
    (is1 ∙ ap (λ ws. nick ∷ ws) (is2 ∙ ap (λ ws. distance ∷ ws) (is3
    ∙ ap (λ ws. user ∷ ws) (is4 ∙ ap (λ ws. host ∷ ws) (is5
    ∙ ap (λ ws. token ∷ ws) (is6 ∙ ap (λ ws. mode ∷ ws) is7))))))
    ended reader
