-- The hash of bytes that are given part by part, and the bytes of a number as the library writes them. Assumes nothing.
use Rattle.std.proofs.Common.{◌≡◌, ℕ, ◌/◌, ◌%◌, List, [], ◌∷◌, ◌++◌, refl, ap, ◌∙◌, div-one}
use Rattle.chooser.specs.Fnv.{bytes_of, hashed, stirred}

pub hashed_join : (h : ℕ) (xs ys : List ℕ) → hashed h (xs ++ ys) ≡ hashed (hashed h xs) ys
unfolding hashed
hashed_join h [] ys = refl
hashed_join h (x ∷ xs) ys = hashed_join (stirred h x) xs ys

pub hashed_parts : (h : ℕ) (ws xs ys zs : List ℕ) → hashed h (ws ++ xs ++ ys ++ zs) ≡ hashed (hashed (hashed (hashed h ws) xs) ys) zs
hashed_parts h ws xs ys zs =
    hashed_join h (ws ++ xs ++ ys) zs ∙ ap (λ k. hashed k zs) (hashed_join h (ws ++ xs) ys ∙ ap (λ k. hashed k ys) (hashed_join h ws xs))

pub hashed_push : (h : ℕ) (xs : List ℕ) (b : ℕ) → hashed h (xs ++ (b ∷ [])) ≡ stirred (hashed h xs) b
unfolding hashed
hashed_push h xs b = hashed_join h xs (b ∷ [])

pub bytes_are : (n : ℕ)
    → (n / 72057594037927936 % 256) ∷ (n / 281474976710656 % 256) ∷ (n / 1099511627776 % 256) ∷ (n / 4294967296 % 256) ∷ (n / 16777216 % 256) ∷ (n / 65536 % 256) ∷ (n / 256 % 256) ∷ (n % 256) ∷ []
    ≡ bytes_of 8 n
bytes_are n = rw div-one refl
