-- Tokens that have a fault of their own where they are bad.
use Rattle.std.proofs.Common.{◌≡◌, Bool, true, false, cond, not, ◌&&◌, List, [], ◌∷◌, length, Ok, Err, refl, ap, sym, ◌∙◌, inl}
use Rattle.phrases.specs.declared.refusal.ReadError.{ReadError}
use Rattle.phrases.specs.declared.refusal.ReadError.TheVariants.{Refused}
use Rattle.phrases.specs.Phrases.{token}
use Rattle.phrases.specs.Parsers as p
use Rattle.phrases.specs.Parsers.{Outcome, refuse, either, next, passes, head}
use Rattle.phrases.proofs.Good.{Fits, Takes, Refuses, ok_is}
use Rattle.sql_read.specs.declared.token_list.Token.{Token}
use Rattle.query_read.specs.declared.fault.Fault.{Fault}
use Rattle.query_read.specs.declared.fault.Fault.TheVariants.{Unexpected}
use Rattle.query_read.specs.Expressions as g
use Rattle.query_read.specs.ExpressionParsers.{sound}

-- what it gives at a token, by the two tests
abbrev at_token : Fault → Bool → Bool → Token → List Token → Outcome Token Fault Token
at_token fault good bad t s = cond (good && bad) (Err (Refused fault (length (t ∷ s)))) (cond good (Ok (t, s)) (Err (Refused Unexpected (length (t ∷ s)))))

module _ (fault : Fault) (test bad : Token → Bool) where
  abbrev good : Token → Bool
  good t = test t && not (bad t)

  pub sound_token : (t : Token) (s : List Token) → sound fault test bad (t ∷ s) ≡ at_token fault (test t) (bad t) t s
  unfolding sound p.expect
  sound_token t s = refl

  pub sound_end : sound fault test bad [] ≡ Err (Refused Unexpected 0)
  unfolding sound p.expect
  sound_end = refl

  takes_by : (b c : Bool) (t u : Token) (s rest : List Token) → at_token fault b c t s ≡ Ok (u, rest) → (t ∷ s ≡ u ∷ rest) × (b && not c ≡ true) × (t ≡ u)
  takes_by true true t u s rest h = absurd (cc)
  takes_by true false t u s rest h = let e = ok_is t u s rest h in ((λ i. e.0 i ∷ e.1 i), refl, e.0)
  takes_by false c t u s rest h = absurd (cc)

  gives : (b c : Bool) (t : Token) (s : List Token) → (b && not c) ≡ true → at_token fault b c t s ≡ Ok (t, s)
  gives true true t s h = absurd (cc)
  gives true false t s h = refl
  gives false c t s h = absurd (cc)

  refuses_by : (b c : Bool) (t : Token) (s : List Token) (e : ReadError Fault) → at_token fault b c t s ≡ Err e → (f : Fault) × (e ≡ Refused f (length (t ∷ s))) × ((z : List Token) → at_token fault b c t z ≡ Err (Refused f (length (t ∷ z))))
  refuses_by true true t s e h = (fault, cc, λ z. refl)
  refuses_by true false t s e h = absurd (cc)
  refuses_by false c t s e h = (Unexpected, cc, λ z. refl)

  sound_sound : (ts rest : List Token) (u : Token) → sound fault test bad ts ≡ Ok (u, rest) → Takes (token good) (sound fault test bad) ts u rest
  sound_sound [] rest u h = let e = sound_end in absurd (cc)
  sound_sound (t ∷ s) rest u h =
      let e = takes_by (test t) (bad t) t u s rest (sym (sound_token t s) ∙ h) in
      let ok : good u ≡ true = ap good (sym e.2) ∙ e.1 in
      record { text = u ∷ []; cut = e.0; reads = (refl, ok); local = λ z _. sound_token u z ∙ gives (test u) (bad u) u z ok }

  refused_at : (ts : List Token) (e : ReadError Fault) → sound fault test bad ts ≡ Err e → Refuses (token good) (sound fault test bad) ts e
  refused_at [] e h =
      let x = sound_end in
      record { before = []; rest = []; fault = Unexpected; is = cc; cut = refl; viable = inl refl; local = λ s same. at_end s same }
    where
      at_end : (s : List Token) → head s ≡ head [] → sound fault test bad s ≡ Err (Refused Unexpected (length s))
      at_end [] same = sound_end
      at_end (u ∷ s) same = absurd (cc)
  refused_at (t ∷ s) e h =
      let x = refuses_by (test t) (bad t) t s e (sym (sound_token t s) ∙ h) in
      record { before = []; rest = t ∷ s; fault = x.0; is = x.1; cut = refl; viable = inl refl; local = λ z same. at_same z same x.0 x.2 }
    where
      at_same : (z : List Token) → head z ≡ head (t ∷ s) → (f : Fault) → ((y : List Token) → at_token fault (test t) (bad t) t y ≡ Err (Refused f (length (t ∷ y)))) → sound fault test bad z ≡ Err (Refused f (length z))
      at_same [] same f g = absurd (cc)
      at_same (u ∷ z) same f g = let e : u ≡ t = cc in ap (λ v. sound fault test bad (v ∷ z)) e ∙ sound_token t z ∙ g z

  pub fits_sound : (gap stop : Token → Bool) → Fits gap (g.sound test bad) stop (sound fault test bad)
  fits_sound gap stop = record {
    sound = sound_sound;
    complete = λ xs rest t l h. let e = l.0 in inl (rw e (sound_token t rest ∙ gives (test t) (bad t) t rest l.1));
    refuses = refused_at;
  }
