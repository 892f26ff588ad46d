-- The currents of one pixel more; and a refusal's bytes and a tick's, which have the currents' codes.
use Prim.Native.Nat.{ℕ, zero, suc, ◌+◌, ◌-◌, ◌*◌, ◌<◌}
use mathlib.Core.Path.{◌≡◌, refl, sym, ◌∙◌, ap}
use mathlib.Core.List.{List, [], ◌∷◌}
use native.Mathlib.Omega.{arith}
use lib.ListN.{get_or, drop}
use lib.Seq.{get_or-drop}
use borrow.Rule.Slice.PartMut.{put_mid}
use Rattle.currents.specs.Table6.{green, red_or_blue}
use Rattle.currents.specs.Currents.{pixels}

-- green, red and blue of pixel i, from codes
abbrev shown : ℕ → List ℕ → ℕ → List ℕ
shown levels codes i = green levels (get_or codes (3 * i + 1) 0) ∷ red_or_blue levels (get_or codes (3 * i) 0) ∷ red_or_blue levels (get_or codes (3 * i + 2) 0) ∷ []

-- put behind those of the pixels before
one_more : (levels : ℕ) (codes : List ℕ) (i : ℕ) → i < 5 → put_mid (3 * i) (3 * i + 3 - 3 * i) (pixels i levels codes) (shown levels codes i) ≡ pixels (i + 1) levels codes
one_more levels codes zero h = refl
one_more levels codes (suc zero) h = refl
one_more levels codes (suc (suc zero)) h = refl
one_more levels codes (suc (suc (suc zero))) h = refl
one_more levels codes (suc (suc (suc (suc zero)))) h = refl
one_more levels codes (suc (suc (suc (suc (suc i))))) h = absurd (omega arith)

-- an answer has the codes behind three bytes
code_at : (answer : List ℕ) (i k : ℕ) → get_or (drop 3 answer) (3 * i + k) 0 ≡ get_or answer (3 + 3 * i + k) 0
code_at answer i k = get_or-drop 3 answer (3 * i + k) 0 ∙ ap (λ n. get_or answer n 0) (omega arith)

pub pixel-more : (levels : ℕ) (answer currents part : List ℕ) (i : ℕ) → i < 5 → currents ≡ pixels i levels (drop 3 answer)
    → part ≡ green levels (get_or answer (3 + 3 * i + 1) 0) ∷ red_or_blue levels (get_or answer (3 + 3 * i) 0) ∷ red_or_blue levels (get_or answer (3 + 3 * i + 2) 0) ∷ []
    → put_mid (3 * i) (3 * i + 3 - 3 * i) currents part ≡ pixels (i + 1) levels (drop 3 answer)
pixel-more levels answer currents part i h e p =
    let found : part ≡ shown levels (drop 3 answer) i =
    p ∙ (λ j. green levels (sym (code_at answer i 1) j) ∷ red_or_blue levels (sym (get_or-drop 3 answer (3 * i) 0) j) ∷ red_or_blue levels (sym (code_at answer i 2) j) ∷ []) in
    (λ j. put_mid (3 * i) (3 * i + 3 - 3 * i) (e j) (found j)) ∙ one_more levels (drop 3 answer) i h
