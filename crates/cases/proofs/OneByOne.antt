-- Laying down, a byte, a sign or a word at a time: what is left to lay down from a place on is the next and what is left behind it.
use Rattle.std.proofs.Common.{length-set, ◌∷◌, [], min, replicate, ◌++◌, leb, leb-true, leb-false, add-zero, append_assoc, take-append-drop, ℕ, zero, suc, ◌+◌, ◌-◌, ◌<◌, ◌≤◌, ◌≡◌, refl, sym, ◌∙◌, ap, ap₂, Bool, true, false, List, eqb, ltb, length-drop, arith, length, get_or, take, drop, set, lt-ltb, le-ltb}
use Rattle.std.proofs.lemmas.List.{take_more_set, drop-set-lt, get_or-drop}
use Rattle.std.proofs.Math.Seq.{drop-drop}
use Rattle.stored.specs.Choice.{pick}
use Rattle.stored.proofs.EntriesLeft.{same-test}
use Rattle.cases.specs.Text.{up_to, is_blank}
use Rattle.cases.specs.Laying.{Laid, unlaid, byte_laid, sign_behind, sign_laid, behind, signs_laid, text_laid, kind_between, value_laid, word_laid, word_behind, words_from}

-- a byte laid down some times is in each of the places behind, as far as there is room
pub filled : (times byte : ℕ) (room : List ℕ) (at n : ℕ) → n ≡ min times (length room - at)
    → byte_laid times byte room at ≡ record { room = take at room ++ (replicate n byte ++ drop (at + n) room); to = at + n }
filled zero byte room at n e =
    let none : n ≡ 0 = omega arith in
    rw (none, add-zero) (ap (λ (l : List ℕ). record { room = l; to = at }) (sym (take-append-drop at room)))
filled (suc times) byte room at n e = by (leb (length room) at) refl (filled times byte (set room at byte) (at + 1))
  where
    by : (full : Bool) → leb (length room) at ≡ full
        → ((m : ℕ) → m ≡ min times (length (set room at byte) - (at + 1))
        → byte_laid times byte (set room at byte) (at + 1)
        ≡ record {
          room = take (at + 1) (set room at byte) ++ (replicate m byte ++ drop (at + 1 + m) (set room at byte));
          to = at + 1 + m;
        })
        → byte_laid (suc times) byte room at ≡ record { room = take at room ++ (replicate n byte ++ drop (at + n) room); to = at + n }
    by true h more =
        let none : n ≡ 0 = omega (arith, leb-true (length room) at h) in
        rw (h, none, add-zero) (ap (λ (l : List ℕ). record { room = l; to = at }) (sym (take-append-drop at room)))
    by false h more =
        let low : at < length room = leb-false (length room) at h in
        let m = n - 1 in
        let one : n ≡ suc m = omega arith in
        let place : at + 1 + m ≡ at + suc m = omega arith in
        let on : m ≡ min times (length (set room at byte) - (at + 1)) = omega (arith, length-set room at byte) in
        rw (h, one)
        (more m on
        ∙ rw (take_more_set room at byte low, drop-set-lt (at + 1 + m) room at byte (omega arith), place)
        (ap (λ (l : List ℕ). record { room = l; to = at + suc m }) (append_assoc (take at room) (byte ∷ []) _)))

-- at the end of the text nothing is laid down, whatever the fuel
pub no-signs : (fuel : ℕ) (text : List ℕ) (at : ℕ) (room : List ℕ) (to : ℕ) → length text ≤ at
    → signs_laid fuel text at room to ≡ unlaid room to
no-signs zero text at room to h = refl
no-signs (suc fuel) text at room to h = rw (le-ltb at (length text) h)

pub blank : (fuel : ℕ) (text : List ℕ) (at : ℕ) (room : List ℕ) (to : ℕ) → at < length text → is_blank (get_or text at 0) ≡ true
    → signs_laid fuel text at room to ≡ unlaid room to
blank zero text at room to h b = refl
blank (suc fuel) text at room to h b = rw (lt-ltb at (length text) h, b)

pub one-sign : (fuel : ℕ) (text : List ℕ) (at : ℕ) (room : List ℕ) (to : ℕ) → 0 < fuel → at < length text
    → is_blank (get_or text at 0) ≡ false
    → signs_laid fuel text at room to
    ≡ behind (signs_laid (fuel - 1) text (sign_behind text at)) (sign_laid (take (sign_behind text at - at) (drop at text)) room to)
one-sign zero text at room to f h b = absurd (omega arith)
one-sign (suc fuel) text at room to f h b =
    let e : suc fuel - 1 ≡ fuel = omega arith in
    rw (lt-ltb at (length text) h, b, e)

-- at the end of the words nothing is laid down, whatever the fuel
pub no_words : (fuel : ℕ) (words : List ℕ) (at : ℕ) (room : List ℕ) (to : ℕ) → length words ≤ at
    → words_from fuel words at room to ≡ unlaid room to
no_words zero words at room to h = refl
no_words (suc fuel) words at room to h = rw (le-ltb at (length words) h)

pub one_word : (fuel : ℕ) (words : List ℕ) (at : ℕ) (room : List ℕ) (to : ℕ) → 0 < fuel → at < length words
    → words_from fuel words at room to
    ≡ behind (words_from (fuel - 1) words (word_behind words at)) (word_laid (take (word_behind words at - at) (drop at words)) room to)
one_word zero words at room to f h = absurd (omega arith)
one_word (suc fuel) words at room to f h =
    let e : suc fuel - 1 ≡ fuel = omega arith in
    rw (lt-ltb at (length words) h, e)

-- a sign that was laid down, and what is left to lay down behind it
pub sign-on : (fuel : ℕ) (text : List ℕ) (at : ℕ) (room : List ℕ) (to end : ℕ) (next : List ℕ) (on : ℕ) → 0 < fuel → at < length text
    → is_blank (get_or text at 0) ≡ false → end ≡ sign_behind text at
    → on ≡ (sign_laid (take (end - at) (drop at text)) room to).to → next ≡ (sign_laid (take (end - at) (drop at text)) room to).room
    → signs_laid (fuel - 1) text end next on ≡ signs_laid fuel text at room to
sign-on fuel text at room to end next on f h b e eo en = rw (eo, en, e) (sym (one-sign fuel text at room to f h b))

-- a word that was laid down, and what is left to lay down behind it
pub word_on : (fuel : ℕ) (words : List ℕ) (at : ℕ) (room : List ℕ) (to end : ℕ) (next : List ℕ) (on : ℕ) → 0 < fuel → at < length words
    → end ≡ word_behind words at
    → on ≡ (word_laid (take (end - at) (drop at words)) room to).to → next ≡ (word_laid (take (end - at) (drop at words)) room to).room
    → words_from (fuel - 1) words end next on ≡ words_from fuel words at room to
word_on fuel words at room to end next on f h e eo en = rw (eo, en, e) (sym (one_word fuel words at room to f h))

-- what stands in front of a text or of words does not matter: from a place on they are what is left from there on
sign-moved : (text : List ℕ) (p q : ℕ) → sign_behind text (p + q) ≡ p + sign_behind (drop p text) q
unfolding sign_behind
sign-moved text p q = rw (get_or-drop p text q 0, drop-drop q p text) (by (eqb (get_or text (p + q) 0) 0x7B))
  where
    by : (brace : Bool) → pick brace (p + q + up_to 1 0x7D (drop (p + q) text)) (p + q + 1)
        ≡ p + pick brace (q + up_to 1 0x7D (drop (p + q) text)) (q + 1)
    by true = omega arith
    by false = omega arith

signs-moved : (fuel : ℕ) (text : List ℕ) (p q : ℕ) (room : List ℕ) (to : ℕ)
    → signs_laid fuel text (p + q) room to ≡ signs_laid fuel (drop p text) q room to
signs-moved zero text p q room to = refl
signs-moved (suc fuel) text p q room to =
    let end = sign_behind (drop p text) q in
    let size : p + end - (p + q) ≡ end - q = omega arith in
    let test = same-test p q (length text) ∙ ap (ltb q) (sym (length-drop p text)) in
    let sign = sign_laid (take (end - q) (drop (p + q) text)) room to in
    rw (test, sign-moved text p q, size, get_or-drop p text q 0, drop-drop q p text)
    (ap (λ (more : Laid). pick (ltb q (length (drop p text))) (pick (is_blank (get_or text (p + q) 0)) (unlaid room to) more) (unlaid room to))
    (signs-moved fuel text p end sign.room sign.to))

words-moved : (fuel : ℕ) (words : List ℕ) (p q : ℕ) (room : List ℕ) (to : ℕ)
    → words_from fuel words (p + q) room to ≡ words_from fuel (drop p words) q room to
words-moved zero words p q room to = refl
words-moved (suc fuel) words p q room to =
    let end = q + up_to 1 0x20 (drop (p + q) words) in
    let place : word_behind words (p + q) ≡ p + end = omega arith in
    let size : p + end - (p + q) ≡ end - q = omega arith in
    let test = same-test p q (length words) ∙ ap (ltb q) (sym (length-drop p words)) in
    let word = word_laid (take (end - q) (drop (p + q) words)) room to in
    rw (test, place, size, drop-drop q p words)
    (ap (λ (more : Laid). pick (ltb q (length (drop p words))) more (unlaid room to)) (words-moved fuel words p end word.room word.to))

-- the first sign, and what is left to lay down behind it
pub sign-first : (fuel : ℕ) (text : List ℕ) (room : List ℕ) (to size : ℕ) (next : List ℕ) (on : ℕ) → 0 < fuel → 0 < length text
    → is_blank (get_or text 0 0) ≡ false → size ≡ sign_behind text 0
    → on ≡ (sign_laid (take size text) room to).to → next ≡ (sign_laid (take size text) room to).room
    → signs_laid (fuel - 1) (drop size text) 0 next on ≡ signs_laid fuel text 0 room to
sign-first fuel text room to size next on f h b e eo en =
    let all : size - 0 ≡ size = omega arith in
    let here : size + 0 ≡ size = omega arith in
    sym (signs-moved (fuel - 1) text size 0 next on)
    ∙ ap (λ (at : ℕ). signs_laid (fuel - 1) text at next on) here
    ∙ sign-on fuel text 0 room to size next on f h b e (rw all eo) (rw all en)

-- the first word, and what is left to lay down behind it
pub word_first : (fuel : ℕ) (words : List ℕ) (room : List ℕ) (to size : ℕ) (next : List ℕ) (on : ℕ) → 0 < fuel → 0 < length words
    → size ≡ word_behind words 0
    → on ≡ (word_laid (take size words) room to).to → next ≡ (word_laid (take size words) room to).room
    → words_from (fuel - 1) (drop size words) 0 next on ≡ words_from fuel words 0 room to
word_first fuel words room to size next on f h e eo en =
    let all : size - 0 ≡ size = omega arith in
    let here : size + 0 ≡ size = omega arith in
    sym (words-moved (fuel - 1) words size 0 next on)
    ∙ ap (λ (at : ℕ). words_from (fuel - 1) words at next on) here
    ∙ word_on fuel words 0 room to size next on f h e (rw all eo) (rw all en)

-- the three steps that lay a value down
pub value-laid : (text room : List ℕ) (from start end : ℕ) (first second third : List ℕ)
    → start ≡ (byte_laid 1 0 room from).to → first ≡ (byte_laid 1 0 room from).room
    → end ≡ (text_laid text first start).to → second ≡ (text_laid text first start).room
    → third ≡ (byte_laid 1 (kind_between start end) second from).room
    → (end ≡ (value_laid text room from).to) × (third ≡ (value_laid text room from).room)
unfolding value_laid
value-laid text room from start end first second third es ef ee e2 e3 =
    let laid : text_laid text first start ≡ behind (text_laid text) (byte_laid 1 0 room from) = ap₂ (text_laid text) ef es in
    let to = ee ∙ ap (λ (x : Laid). x.to) laid in
    let kind = ap₂ kind_between es to in
    (to, e3 ∙ ap₂ (λ (k : ℕ) (l : List ℕ). (byte_laid 1 k l from).room) kind (e2 ∙ ap (λ (x : Laid). x.room) laid))
