-- The values of registers as one list: what is read of it, a register stored into it, and the loops that write and read all.
use Rattle.std.proofs.Common.{◌≡◌, ℕ, zero, suc, ◌+◌, ◌-◌, ◌*◌, ◌<◌, ◌≤◌, eqb, cond, List, [], ◌∷◌, ◌++◌, length, length-set, get_or, set, take, drop, refl, sym, ap, ◌∙◌, arith}
use Rattle.std.proofs.lemmas.List.{take_all, take_more, take_more_set, drop-drop}
use Rattle.std.proofs.lemmas.Slice.{take-put_mid}
use Rattle.std.proofs.Math.Seq.{take-add}
use Rattle.std.specs.Simd.{first_chunks}
use borrow.Rule.Slice.PartMut.{put_mid}
use Rattle.tms34070.specs.Facts as facts
use Rattle.tms34070.specs.State.{Colour}
use Rattle.tms34070.specs.Load.{place_of, stored}
use Rattle.tms34070.specs.Tick.{ext_of, rep_of, shown}
use Rattle.tms34070.specs.Struct.{colour_is, register_values, values_in}
use Rattle.tms34070.specs.declared.register.Register.{Register}

-- ---- one register

abbrev blank : Register
blank = record { colour = record { red = 0; green = 0; blue = 0 }; ext = 0; rep = 0 }

-- its values stand at the place of its number
value-at : (rs : List Register) (n k : ℕ) (d : Register) → n < length rs → k < facts.register_long → get_or (values_in rs) (place_of n + k) 0 ≡ get_or (register_values (get_or rs n d)) k 0
value-at [] n k d h j = absurd (omega arith)
value-at (r ∷ rs) zero k d h j = let e : 5 * 0 + k ≡ k = omega arith in ap (λ i. get_or (values_in (r ∷ rs)) i 0) e ∙ front k j
  where
    front : (k : ℕ) → k < 5 → get_or (values_in (r ∷ rs)) k 0 ≡ get_or (register_values r) k 0
    front zero h = refl
    front (suc zero) h = refl
    front (suc (suc zero)) h = refl
    front (suc (suc (suc zero))) h = refl
    front (suc (suc (suc (suc zero)))) h = refl
    front (suc (suc (suc (suc (suc k))))) h = absurd (omega arith)
value-at (r ∷ rs) (suc n) k d h j =
    let e : 5 * suc n + k ≡ suc (suc (suc (suc (suc (5 * n + k))))) = omega arith in
    ap (λ i. get_or (values_in (r ∷ rs)) i 0) e ∙ value-at rs n k d (omega arith) j

-- and so in the list with another register there
pub stored_at : (rs : List Register) (n : ℕ) (r : Register) → n < length rs → values_in (set rs n r) ≡ stored (values_in rs) n r.colour.red r.colour.green r.colour.blue r.ext r.rep
stored_at [] n r h = absurd (omega arith)
stored_at (x ∷ rs) zero r h = refl
stored_at (x ∷ rs) (suc n) r h =
    let e : (k : ℕ) → 5 * suc n + k ≡ suc (suc (suc (suc (suc (5 * n + k))))) = λ k. omega arith in
    let e₀ : 5 * suc n ≡ suc (suc (suc (suc (suc (5 * n))))) = omega arith in
    rw (e 4, e 3, e 2, e 1, e₀) (ap (λ l. register_values x ++ l) (stored_at rs n r (omega arith)))

pub ext_at : (rs : List Register) (n : ℕ) (d : Register) → n < length rs → (get_or rs n d).ext ≡ ext_of (values_in rs) n
ext_at rs n d h = sym (value-at rs n 3 d h (omega arith))

pub rep_at : (rs : List Register) (n : ℕ) (d : Register) → n < length rs → (get_or rs n d).rep ≡ rep_of (values_in rs) n
rep_at rs n d h = sym (value-at rs n 4 d h (omega arith))

-- a pixel shows the one before it, or its register; reads of registers that aren't there give a blank one
pub shown_at : (rs : List Register) (c : Colour) (n : ℕ) → n < length rs
    → shown (values_in rs) c n ≡ cond (eqb (get_or rs n blank).rep 1) c (colour_is (get_or rs n blank).colour)
unfolding shown
shown_at rs c n h =
    let at : (k : ℕ) → k < facts.register_long → get_or (values_in rs) (place_of n + k) 0 ≡ get_or (register_values (get_or rs n blank)) k 0 = λ k j. value-at rs n k blank h j in
    let first : place_of n ≡ place_of n + 0 = omega arith in
    λ i. cond (eqb (at 4 (omega arith) i) 1) c (record {
      red = (ap (λ m. get_or (values_in rs) m 0) first ∙ at 0 (omega arith)) i;
      green = at 1 (omega arith) i;
      blue = at 2 (omega arith) i;
    })

-- ---- all of them, one after the other

values-append : (xs ys : List Register) → values_in (xs ++ ys) ≡ values_in xs ++ values_in ys
values-append [] ys = refl
values-append (r ∷ xs) ys = ap (λ l. register_values r ++ l) (values-append xs ys)

-- i registers stand in front
pub record Front (rs : List Register) (places : List ℕ) (i : ℕ) : Type 0 where
  pub long : length rs ≡ facts.register_count
  pub front : values_in (take i rs) ≡ take (facts.register_long * i) places

front-more : (i : ℕ) (rs rs' : List Register) (r : Register) (l l' : List ℕ) → length rs' ≡ length rs → take (i + 1) rs' ≡ take i rs ++ (r ∷ []) → take (5 * i + 5) l' ≡ take (5 * i) l ++ register_values r → Front rs l i → Front rs' l' (i + 1)
front-more i rs rs' r l l' k e f p =
    let next : 5 * (i + 1) ≡ 5 * i + 5 = omega arith in
    record { long = k ∙ p.long; front = ap values_in e ∙ values-append (take i rs) (r ∷ []) ∙ ap (λ m. m ++ register_values r) p.front ∙ sym f ∙ ap (λ n. take n l') (sym next) }

-- a turn of the loop that writes them
pub put-more : (rs : List Register) (l ys : List ℕ) (i : ℕ) (d : Register) → i < length rs → 5 * i + 5 ≤ length l → ys ≡ register_values (get_or rs i d) → Front rs l i
    → Front rs (put_mid (5 * i) (5 * i + 5 - 5 * i) l ys) (i + 1)
put-more rs l ys i d h room e p =
    let size : 5 * i + 5 ≡ 5 * i + length ys = omega (arith, ap length e) in
    front-more i rs rs (get_or rs i d) l _ refl (take_more rs i d h)
    (take-put_mid (5 * i) (5 * i + 5 - 5 * i) l ys (5 * i + 5) size (omega arith) ∙ ap (λ m. take (5 * i) l ++ m) e) p

-- and of the one that reads them
chunk-at : (m i : ℕ) (l : List ℕ) → i < m → get_or (first_chunks 5 m l) i [] ≡ take 5 (drop (5 * i) l)
chunk-at zero i l h = absurd (omega arith)
chunk-at (suc m) zero l h = refl
chunk-at (suc m) (suc i) l h = let e : 5 + 5 * i ≡ 5 * suc i = omega arith in chunk-at m i (drop 5 l) (omega arith) ∙ ap (take 5) (drop-drop (5 * i) 5 l ∙ ap (λ n. drop n l) e)

pub read-more : (rs : List Register) (r : Register) (m i : ℕ) (l : List ℕ) → i < length rs → i < m → register_values r ≡ get_or (first_chunks 5 m l) i [] → Front rs l i → Front (set rs i r) l (i + 1)
read-more rs r m i l h j e p =
    front-more i rs (set rs i r) r l l (length-set rs i r) (take_more_set rs i r h)
    (take-add (5 * i) 5 l ∙ ap (λ n. take (5 * i) l ++ n) (sym (e ∙ chunk-at m i l j))) p

-- sixteen are all
pub all-front : (rs : List Register) (l : List ℕ) (i : ℕ) → length l ≡ facts.values → facts.register_count ≤ i → Front rs l i → values_in rs ≡ l
all-front rs l i room h p = ap values_in (sym (take_all i rs (omega (arith, p.long)))) ∙ p.front ∙ take_all (5 * i) l (omega arith)
