-- The number of atoms of tokens that follow one another, and of an object's tokens.
use Rattle.std.proofs.Common.{◌≡◌, ◌+◌, ◌≤◌, List, [], ◌∷◌, ◌++◌, length, arith, refl, sym, zero-add}
use Rattle.bz_model.specs.Object.{Object, Objects, none, more}
use Rattle.bz_model.specs.Object.Object.{Unit_, Dot, Pick, Tuple, SeqOf, SetOf, CycOf}
use Rattle.bz_model.specs.Measures.{size, sizes}
use Rattle.object_store.specs.declared.token.Token.{Token}
use Rattle.object_store.specs.declared.token.Token.TheVariants as token
use Rattle.object_store.specs.Tokens.{tokens_of, tokens_all, token_size, size_of}

-- The tokens of two lists, one after the other, have as many atoms as both lists together.
pub size_of-append : (ts us : List Token) → size_of (ts ++ us) ≡ size_of ts + size_of us
size_of-append [] us = sym (zero-add (size_of us))
size_of-append (t ∷ ts) us = let e = size_of-append ts us in omega arith

-- A token put after others adds its own number of atoms, one or none, to theirs.
pub size_of-push : (ts : List Token) (t : Token) → size_of (ts ++ t ∷ []) ≡ size_of ts + token_size t
size_of-push ts t = let e = size_of-append ts (t ∷ []) in omega arith

token_size-le : (t : Token) → token_size t ≤ 1
token_size-le token.Unit = omega arith
token_size-le token.Dot = omega arith
token_size-le (token.Pick i) = omega arith
token_size-le (token.Count k) = omega arith

-- there are at most as many atoms as tokens
pub size_of-le : (ts : List Token) → size_of ts ≤ length ts
size_of-le [] = omega arith
size_of-le (t ∷ ts) = let a = token_size-le t in let b = size_of-le ts in omega arith

-- the size of an object is the number of dots among its tokens
mutual
  pub size_of-tokens : (o : Object) → size_of (tokens_of o) ≡ size o
  size_of-tokens Unit_ = omega arith
  size_of-tokens Dot = omega arith
  size_of-tokens (Pick i o) = let e = size_of-tokens o in omega arith
  size_of-tokens (Tuple os) = size_of-all os
  size_of-tokens (SeqOf os) = let e = size_of-all os in omega arith
  size_of-tokens (SetOf os) = let e = size_of-all os in omega arith
  size_of-tokens (CycOf os) = let e = size_of-all os in omega arith

  pub size_of-all : (os : Objects) → size_of (tokens_all os) ≡ sizes os
  size_of-all none = refl
  size_of-all (more o os) =
      let a = size_of-append (tokens_of o) (tokens_all os) in
      let b = size_of-tokens o in
      let d = size_of-all os in
      omega arith
