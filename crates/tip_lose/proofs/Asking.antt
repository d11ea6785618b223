-- What words ask for, word by word.
use Rattle.std.proofs.Common.{◌≡◌, ℕ, suc, ◌+◌, ◌-◌, ◌<◌, ◌≤◌, Bool, true, List, [], ◌∷◌, ◌++◌, length, get_or, take, drop, Some, None, Option, Err, Result, ◌==◌, ◌||◌, MatchOption, sym, ap, ◌∙◌, subst, ⊎_elim, arith, String, Global, string_bytes}
use Rattle.std.specs.List.{All, Contains}
use Rattle.std.specs.Str.Parse.{digits_value, without_leading_plus}
use Rattle.std.proofs.lemmas.Bool.Decides.{nat_tests}
use Rattle.std.proofs.lemmas.List.{take_more, take_all, take_rest}
use Rattle.std.proofs.lemmas.List.Elements.{All-push, All-cons, Contains-append_left, Contains-push, Contains-push_cases}
use Rattle.tip_columns.specs.Sets.{in_set}
use Rattle.tip_columns.specs.declared.Columns.{Columns}
use Rattle.tip_element.specs.Laws.{Exactly}
use Rattle.tip_lose.specs.Asking.{Says, IsNumber, NoNumber, Said, Gathered, FirstUnread, Chosen, usual_columns, Asked, usual, unread, read}
use Rattle.tip_lose.specs.declared.request.Refusal.{Refusal}
use Rattle.tip_lose.specs.declared.request.Refusal.TheVariants as refusal
use Rattle.tip_lose.specs.declared.request.Request.{Request}

-- the set b is a with n more, or one of them is too large for any set
abbrev pub One : Option Columns → ℕ → Option Columns → Type 0
One a n b = MatchOption a (b ≡ None) (λ s. MatchOption b (64 ≤ n) (λ t. (m : ℕ) → in_set t m ≡ (m == n || in_set s m)))

module _ (ws : List (String Global)) (w : String Global) (n : ℕ) (says : Says (string_bytes w) n) where
  said_before : (m : ℕ) → Said ws m → Said (ws ++ w ∷ []) m
  said_before m h = (h.0, Contains-append_left ws (w ∷ []) h.0 h.1, h.2)

  said_here : Said (ws ++ w ∷ []) n
  said_here = (w, Contains-push ws w, says)

  -- what one of the words says, an earlier one says, or it is what the last does
  said_cases : (P : ℕ → Type 0) → ((m : ℕ) → Said ws m → P m) → P n → (m : ℕ) → Said (ws ++ w ∷ []) m → P m
  said_cases P old new m h =
      ⊎_elim
      (λ (in-it : Contains ws h.0). old m (h.0, in-it, h.2))
      (λ (last : w ≡ h.0). subst P (says.value ∙ ap (λ v. digits_value 10 (without_leading_plus (string_bytes v))) last ∙ sym h.2.value) new)
      (Contains-push_cases ws w h.0 h.1)

  set_push : (old new : ℕ → Bool) → ((m : ℕ) → new m ≡ (m == n || old m)) → ((m : ℕ) → Exactly (old m) (Said ws m)) → (m : ℕ) → Exactly (new m) (Said (ws ++ w ∷ []) m)
  set_push old new e g m = record {
    sound = λ on. ⊎_elim (λ (here : m ≡ n). subst (Said (ws ++ w ∷ [])) (sym here) said_here) (λ (before : old m ≡ true). said_before m ((g m).sound before)) (grind (arith, nat_tests, e m, on));
    whole = said_cases (λ k. new k ≡ true) (λ k h. grind (arith, nat_tests, e k, (g k).whole h)) (grind (arith, nat_tests, e n)) m;
  }

  none_push : (b : Option Columns) → Gathered ws None → b ≡ None → Gathered (ws ++ w ∷ []) b
  none_push b g e = subst (Gathered (ws ++ w ∷ [])) (sym e) (g.0, g.1, said_before g.0 g.2)

  some_push : (old : ℕ → Bool) (b : Option Columns) → ((m : ℕ) → Exactly (old m) (Said ws m)) → MatchOption b (64 ≤ n) (λ t. (m : ℕ) → in_set t m ≡ (m == n || old m)) → Gathered (ws ++ w ∷ []) b
  some_push old None g e = (n, e, said_here)
  some_push old (Some t) g e = set_push old (in_set t) e g

  gathered_push : (a b : Option Columns) → Gathered ws a → One a n b → Gathered (ws ++ w ∷ []) b
  gathered_push None b g e = none_push b g e
  gathered_push (Some s) b g e = some_push (in_set s) b g e

one_more : (words : List (String Global)) (i : ℕ) (w : String Global) → i < length words → w ≡ get_or words i w → take (i + 1) words ≡ take i words ++ w ∷ []
one_more words i w l e = take_more words i w l ∙ ap (λ v. take i words ++ v ∷ []) (sym e)

-- one word more
pub gathered_more : (words : List (String Global)) (i n : ℕ) (w : String Global) (a b : Option Columns) → i < length words → w ≡ get_or words i w → Says (string_bytes w) n → Gathered (take i words) a → One a n b → Gathered (take (i + 1) words) b
gathered_more words i n w a b l e says g o = rw (one_more words i w l e) (gathered_push (take i words) w n says a b g o)

pub numbers_more : (words : List (String Global)) (i n : ℕ) (w : String Global) → i < length words → w ≡ get_or words i w → Says (string_bytes w) n → All IsNumber (take i words) → All IsNumber (take (i + 1) words)
numbers_more words i n w l e says h = rw (one_more words i w l e) (All-push IsNumber (take i words) w h (n, says))

-- and no word more
pub all_read : (words : List (String Global)) (i : ℕ) (lost : Option Columns) → length words ≤ i → All IsNumber (take i words) → Gathered (take i words) lost → All IsNumber words × Gathered words lost
all_read words i lost l h g = let P : List (String Global) → Type 0 = λ ws. All IsNumber ws × Gathered ws lost in subst P (take_all i words l) (h, g)

-- no word
pub asked_usual : (words : List (String Global)) (r : Result Request Refusal) → length words ≡ 0 → Chosen 5 (Some usual_columns) r → Asked words r
asked_usual [] r l h = usual r h
asked_usual (w ∷ ws) r l h = absurd (omega arith)

-- a word and others
parts : (words others : List (String Global)) (w : String Global) → 1 ≤ length words → w ≡ get_or words 0 w → others ≡ take (length words - 1) (drop 1 words) → words ≡ w ∷ others
parts [] others w l e f = absurd (omega arith)
parts (v ∷ vs) others w l e f =
    let first : w ≡ v = e in
    let rest : others ≡ vs = f ∙ take_rest (v ∷ vs) 1 in cc

module _ (words others : List (String Global)) (w : String Global) (some : 1 ≤ length words) (first : w ≡ get_or words 0 w) (rest : others ≡ take (length words - 1) (drop 1 words)) where
  whole : words ≡ w ∷ others
  whole = parts words others w some first rest

  pub asked_first : (r : Result Request Refusal) → NoNumber w → r ≡ Err (refusal.NoNumber 1) → Asked words r
  asked_first r h e = rw (e, whole) (unread (w ∷ others) 0 record { within = omega arith; this = λ d. h; before = λ k d m. absurd (omega arith) })

  pub asked_later : (k p : ℕ) (r : Result Request Refusal) → Says (string_bytes w) p → FirstUnread others k → r ≡ Err (refusal.NoNumber (k + 2)) → Asked words r
  asked_later k p r says h e =
      let at : FirstUnread (w ∷ others) (suc k) = record { within = omega (arith, h.within); this = h.this; before = All-cons IsNumber w (take k others) (p, says) h.before } in
      rw (e, whole) (subst (λ (n : ℕ). Asked (w ∷ others) (Err (refusal.NoNumber n))) (omega arith) (unread (w ∷ others) (suc k) at))

  pub asked_read : (p : ℕ) (lost : Option Columns) (r : Result Request Refusal) → Says (string_bytes w) p → All IsNumber others × Gathered others lost → Chosen p lost r → Asked words r
  asked_read p lost r says h c = rw whole (read w others p lost r says h.0 h.1 c)
