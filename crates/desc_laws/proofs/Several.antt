-- Several readings one behind another.
use Rattle.std.proofs.Common.{◌≡◌, Ok, Err, refl}
use Rattle.pipeline_desc.specs.Reading.{Reading, ◌>>=◌}
use Rattle.desc_laws.proofs.Texts.{bind_ok}

-- five and then another, where all were read
pub five_read : {A B C D E R : Type 0} (a : Reading A) (b : Reading B) (c : Reading C) (d : Reading D) (e : Reading E) (more : B → C → D → E → Reading R) (r : R)
    → (a >>= (λ _. b >>= (λ w. c >>= (λ x. d >>= (λ y. e >>= (λ z. more w x y z)))))) ≡ Ok r → (w : B) × (x : C) × (y : D) × (z : E) × (b ≡ Ok w) × (c ≡ Ok x) × (d ≡ Ok y) × (e ≡ Ok z) × (more w x y z ≡ Ok r)
five_read (Ok a) (Ok b) (Ok c) (Ok d) (Ok e) more r h = (b, c, d, e, refl, refl, refl, refl, h)
five_read (Err s) b c d e more r h = (cc)
five_read (Ok a) (Err s) c d e more r h = (cc)
five_read (Ok a) (Ok b) (Err s) d e more r h = (cc)
five_read (Ok a) (Ok b) (Ok c) (Err s) e more r h = (cc)
five_read (Ok a) (Ok b) (Ok c) (Ok d) (Err s) more r h = (cc)

-- four and then another
pub four_read : {A B C D R : Type 0} (a : Reading A) (b : Reading B) (c : Reading C) (d : Reading D) (more : A → B → C → D → Reading R) (r : R)
    → (a >>= (λ w. b >>= (λ x. c >>= (λ y. d >>= (λ z. more w x y z))))) ≡ Ok r → (w : A) × (x : B) × (y : C) × (z : D) × (a ≡ Ok w) × (b ≡ Ok x) × (c ≡ Ok y) × (d ≡ Ok z) × (more w x y z ≡ Ok r)
four_read (Ok a) (Ok b) (Ok c) (Ok d) more r h = (a, b, c, d, refl, refl, refl, refl, h)
four_read (Err s) b c d more r h = (cc)
four_read (Ok a) (Err s) c d more r h = (cc)
four_read (Ok a) (Ok b) (Err s) d more r h = (cc)
four_read (Ok a) (Ok b) (Ok c) (Err s) more r h = (cc)

-- one, and what is made of it behind two more
pub last_read : {A B C R : Type 0} (a : Reading A) (b : A → Reading B) (c : A → Reading C) (made : A → R) (r : R) → (a >>= (λ x. b x >>= (λ _. c x >>= (λ _. Ok (made x))))) ≡ Ok r → (x : A) × (a ≡ Ok x) × (made x ≡ r)
last_read (Err s) b c made r h = (cc)
last_read (Ok x) b c made r h =
    let (y, is, more) = bind_ok (b x) (λ _. c x >>= (λ _. Ok (made x))) r h in
    let (z, are, end) = bind_ok (c x) (λ _. Ok (made x)) r more in
    (x, refl, (let whole : Ok (made x) ≡ Ok r = end in cc))
