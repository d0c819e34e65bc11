-- Generated from the Rust's answers, in host/: cargo run --release --offline -p lists -- numbers > ../crates/rules/specs/Numbers.antt
-- A list for each number 0 to 14, and for each setting, tag source and style, with what the run answers and all events. Over
-- each the same in the notation of docs/DECISIONS.md.
use Rattle.std.specs.Prelude.{true, false, List, [], ◌∷◌}
use Rattle.rules.specs.Rules.{plain}
use Rattle.rules.specs.Starred.{Case, bare, styled, word, pair, valued, tag_on, whole}

unfoldable pub every_number : List Case
every_number =
    -- `SS FSS SCA(a) FEN SCA(b):1 FEN SCA(c):2 FEN SCA(d):3 FEN SCA(e):4 FSE SE` → 0 after 11
    whole false false
    (bare 1 0 5 ∷ bare 12 10 15 ∷ word 23 20 25 0 1 ∷ bare 17 30 35 ∷ styled 23 40 45 1 2 1 ∷ bare 17 50 55
    ∷ styled 23 60 65 2 3 2 ∷ bare 17 70 75 ∷ styled 23 80 85 3 4 3 ∷ bare 17 90 95 ∷ styled 23 100 105 4 5 4
    ∷ bare 13 110 115 ∷ bare 2 120 125 ∷ [])
    (97 ∷ 98 ∷ 99 ∷ 100 ∷ 101 ∷ []) 0 11 0
    (plain 1 0 5 0 ∷ plain 3 10 15 0 ∷ plain 7 10 15 0 ∷ valued 20 25 0 0 0 1 ∷ valued 40 45 0 1 1 2
    ∷ valued 60 65 0 2 2 3 ∷ valued 80 85 0 3 3 4 ∷ valued 100 105 0 4 4 5 ∷ plain 8 110 115 0 ∷ plain 4 120 125 0
    ∷ plain 2 120 125 0 ∷ [])
    -- `SS BMS KEY SCA(k) VAL BSS ENT SCA(a) ENT BE KEY SCA(l) VAL ENT SCA(b) BE SE` → 0 after 15
    ∷ whole false false
    (bare 1 0 5 ∷ bare 10 10 15 ∷ bare 18 20 25 ∷ word 23 30 35 0 1 ∷ bare 19 40 45 ∷ bare 9 50 55 ∷ bare 16 60 65
    ∷ word 23 70 75 1 2 ∷ bare 16 80 85 ∷ bare 11 90 95 ∷ bare 18 100 105 ∷ word 23 110 115 2 3 ∷ bare 19 120 125
    ∷ bare 16 130 135 ∷ word 23 140 145 3 4 ∷ bare 11 150 155 ∷ bare 2 160 165 ∷ [])
    (107 ∷ 97 ∷ 108 ∷ 98 ∷ []) 0 15 0
    (plain 1 0 5 0 ∷ plain 3 10 15 0 ∷ plain 9 10 15 0 ∷ valued 30 35 0 0 0 1 ∷ plain 7 50 55 0 ∷ valued 70 75 0 0 1 2
    ∷ plain 6 80 85 0 ∷ plain 8 90 95 0 ∷ valued 110 115 0 0 2 3 ∷ plain 7 130 135 0 ∷ valued 140 145 0 0 3 4
    ∷ plain 8 150 155 0 ∷ plain 10 150 155 0 ∷ plain 4 160 165 0 ∷ plain 2 160 165 0 ∷ [])
    -- `SS TAG(!!,t) SCA(a) SE` → 0 after 5
    ∷ whole false false
    (bare 1 0 5 ∷ pair 22 10 15 0 2 3 ∷ word 23 20 25 3 4 ∷ bare 2 30 35 ∷ [])
    (33 ∷ 33 ∷ 116 ∷ 97 ∷ []) 0 5 0
    (plain 1 0 5 0 ∷ plain 3 10 15 0 ∷ tag_on 1 0 0 2 3 (valued 10 25 0 0 3 4) ∷ plain 4 30 35 0 ∷ plain 2 30 35 0 ∷ [])
    -- `SS TAG(!!,t) SE` → 0 after 5
    ∷ whole false false
    (bare 1 0 5 ∷ pair 22 10 15 0 2 3 ∷ bare 2 20 25 ∷ [])
    (33 ∷ 33 ∷ 116 ∷ []) 0 5 0
    (plain 1 0 5 0 ∷ plain 3 10 15 0 ∷ tag_on 1 0 0 2 3 (plain 6 10 15 0) ∷ plain 4 20 25 0 ∷ plain 2 20 25 0 ∷ [])
    -- `SS TAG(!,t) FSS FSE SE` → 0 after 6
    ∷ whole false false
    (bare 1 0 5 ∷ pair 22 10 15 0 1 2 ∷ bare 12 20 25 ∷ bare 13 30 35 ∷ bare 2 40 45 ∷ [])
    (33 ∷ 116 ∷ []) 0 6 0
    (plain 1 0 5 0 ∷ plain 3 10 15 0 ∷ tag_on 2 0 1 1 2 (plain 7 10 25 0) ∷ plain 8 30 35 0 ∷ plain 4 40 45 0
    ∷ plain 2 40 45 0 ∷ [])
    -- `SS ANC(x) TAG(foo,t) FMS FME SE` → 0 after 6
    ∷ whole false false
    (bare 1 0 5 ∷ word 21 10 15 0 1 ∷ pair 22 20 25 1 4 5 ∷ bare 14 30 35 ∷ bare 15 40 45 ∷ bare 2 50 55 ∷ [])
    (120 ∷ 102 ∷ 111 ∷ 111 ∷ 116 ∷ []) 0 6 0
    (plain 1 0 5 0 ∷ plain 3 10 15 0 ∷ tag_on 2 1 4 4 5 (plain 9 10 35 1) ∷ plain 10 40 45 0 ∷ plain 4 50 55 0
    ∷ plain 2 50 55 0 ∷ [])
    -- `SS TD(!e!,p) DS TAG(!e!,t) ANC(x) SCA(a):2 SE` → 0 after 5
    ∷ whole false false
    (bare 1 0 5 ∷ pair 4 10 15 0 3 4 ∷ bare 6 20 25 ∷ pair 22 30 35 4 7 8 ∷ word 21 40 45 8 9 ∷ styled 23 50 55 9 10 2
    ∷ bare 2 60 65 ∷ [])
    (33 ∷ 101 ∷ 33 ∷ 112 ∷ 33 ∷ 101 ∷ 33 ∷ 116 ∷ 120 ∷ 97 ∷ []) 0 5 0
    (plain 1 0 5 0 ∷ plain 3 20 25 1 ∷ tag_on 2 3 4 7 8 (valued 30 55 1 2 9 10) ∷ plain 4 60 65 0 ∷ plain 2 60 65 0
    ∷ [])
    -- `DS@3-6 SE` → 1 after 0 at 3
    ∷ whole false false
    (bare 6 3 6 ∷ bare 2 10 15 ∷ [])
    [] 1 0 3
    []
    -- `SS TD(!e!,p) SE` → 2 after 1 at 20
    ∷ whole false false
    (bare 1 0 5 ∷ pair 4 10 15 0 3 4 ∷ bare 2 20 25 ∷ [])
    (33 ∷ 101 ∷ 33 ∷ 112 ∷ []) 2 1 20
    (plain 1 0 5 0 ∷ [])
    -- `SS SCA(a) SCA(b)` → 2 after 4 at 20
    ∷ whole false false
    (bare 1 0 5 ∷ word 23 10 15 0 1 ∷ word 23 20 25 1 2 ∷ [])
    (97 ∷ 98 ∷ []) 2 4 20
    (plain 1 0 5 0 ∷ plain 3 10 15 0 ∷ valued 10 15 0 0 0 1 ∷ plain 4 20 25 0 ∷ [])
    -- `SS VD RD VD DS` → 3 after 1 at 30
    ∷ whole false false
    (bare 1 0 5 ∷ bare 3 10 15 ∷ bare 5 20 25 ∷ bare 3 30 35 ∷ bare 6 40 45 ∷ [])
    [] 3 1 30
    (plain 1 0 5 0 ∷ [])
    -- `SS TD(!e!,p) TD(!f!,q) TD(!e!,r)` → 4 after 1 at 30
    ∷ whole false false
    (bare 1 0 5 ∷ pair 4 10 15 0 3 4 ∷ pair 4 20 25 4 7 8 ∷ pair 4 30 35 8 11 12 ∷ [])
    (33 ∷ 101 ∷ 33 ∷ 112 ∷ 33 ∷ 102 ∷ 33 ∷ 113 ∷ 33 ∷ 101 ∷ 33 ∷ 114 ∷ []) 4 1 30
    (plain 1 0 5 0 ∷ [])
    -- `SS VD BOM` → 5 after 1 at 20
    ∷ whole false false
    (bare 1 0 5 ∷ bare 3 10 15 ∷ bare 8 20 25 ∷ [])
    [] 5 1 20
    (plain 1 0 5 0 ∷ [])
    -- `SS SCA(a) BOM BOM SCA(b)` → 5 after 3 at 20
    ∷ whole false false
    (bare 1 0 5 ∷ word 23 10 15 0 1 ∷ bare 8 20 25 ∷ bare 8 30 35 ∷ word 23 40 45 1 2 ∷ [])
    (97 ∷ 98 ∷ []) 5 3 20
    (plain 1 0 5 0 ∷ plain 3 10 15 0 ∷ valued 10 15 0 0 0 1 ∷ [])
    -- `SS DS VD` → 6 after 3 at 20
    ∷ whole false false
    (bare 1 0 5 ∷ bare 6 10 15 ∷ bare 3 20 25 ∷ [])
    [] 6 3 20
    (plain 1 0 5 0 ∷ plain 3 10 15 1 ∷ plain 6 20 25 0 ∷ [])
    -- `SS FSS ANC(x) SCA(a) FEN ALI(y)` → 7 after 4 at 50
    ∷ whole false false
    (bare 1 0 5 ∷ bare 12 10 15 ∷ word 21 20 25 0 1 ∷ word 23 30 35 1 2 ∷ bare 17 40 45 ∷ word 20 50 55 2 3 ∷ [])
    (120 ∷ 97 ∷ 121 ∷ []) 7 4 50
    (plain 1 0 5 0 ∷ plain 3 10 15 0 ∷ plain 7 10 15 0 ∷ valued 20 35 1 0 1 2 ∷ [])
    -- `SS BMS KEY SCA(k) VAL FEN` → 8 after 4 at 50
    ∷ whole false false
    (bare 1 0 5 ∷ bare 10 10 15 ∷ bare 18 20 25 ∷ word 23 30 35 0 1 ∷ bare 19 40 45 ∷ bare 17 50 55 ∷ [])
    (107 ∷ []) 8 4 50
    (plain 1 0 5 0 ∷ plain 3 10 15 0 ∷ plain 9 10 15 0 ∷ valued 30 35 0 0 0 1 ∷ [])
    -- `SS BMS KEY SCA(k) VAL SCA(a) ENT` → 9 after 5 at 60
    ∷ whole false false
    (bare 1 0 5 ∷ bare 10 10 15 ∷ bare 18 20 25 ∷ word 23 30 35 0 1 ∷ bare 19 40 45 ∷ word 23 50 55 1 2 ∷ bare 16 60 65
    ∷ [])
    (107 ∷ 97 ∷ []) 9 5 60
    (plain 1 0 5 0 ∷ plain 3 10 15 0 ∷ plain 9 10 15 0 ∷ valued 30 35 0 0 0 1 ∷ valued 50 55 0 0 1 2 ∷ [])
    -- `SS FMS KEY SCA(k) VAL SCA(a) KEY` → 10 after 5 at 60
    ∷ whole false false
    (bare 1 0 5 ∷ bare 14 10 15 ∷ bare 18 20 25 ∷ word 23 30 35 0 1 ∷ bare 19 40 45 ∷ word 23 50 55 1 2 ∷ bare 18 60 65
    ∷ [])
    (107 ∷ 97 ∷ []) 10 5 60
    (plain 1 0 5 0 ∷ plain 3 10 15 0 ∷ plain 9 10 15 0 ∷ valued 30 35 0 0 0 1 ∷ valued 50 55 0 0 1 2 ∷ [])
    -- `SS FSS SCA(a) SCA(b)` → 11 after 4 at 30
    ∷ whole false false
    (bare 1 0 5 ∷ bare 12 10 15 ∷ word 23 20 25 0 1 ∷ word 23 30 35 1 2 ∷ [])
    (97 ∷ 98 ∷ []) 11 4 30
    (plain 1 0 5 0 ∷ plain 3 10 15 0 ∷ plain 7 10 15 0 ∷ valued 20 25 0 0 0 1 ∷ [])
    -- `SS BSS ENT SCA(a) KEY` → 12 after 4 at 40
    ∷ whole false false
    (bare 1 0 5 ∷ bare 9 10 15 ∷ bare 16 20 25 ∷ word 23 30 35 0 1 ∷ bare 18 40 45 ∷ [])
    (97 ∷ []) 12 4 40
    (plain 1 0 5 0 ∷ plain 3 10 15 0 ∷ plain 7 10 15 0 ∷ valued 30 35 0 0 0 1 ∷ [])
    -- `SS TD(!e!,p) DS TAG(!f!,t) SCA(a)` → 13 after 2 at 30
    ∷ whole false false
    (bare 1 0 5 ∷ pair 4 10 15 0 3 4 ∷ bare 6 20 25 ∷ pair 22 30 35 4 7 8 ∷ word 23 40 45 8 9 ∷ [])
    (33 ∷ 101 ∷ 33 ∷ 112 ∷ 33 ∷ 102 ∷ 33 ∷ 116 ∷ 97 ∷ []) 13 2 30
    (plain 1 0 5 0 ∷ plain 3 20 25 1 ∷ [])
    -- `SS BSS ENT SCA(a)` → 14 after 4 at 35
    ∷ whole false false
    (bare 1 0 5 ∷ bare 9 10 15 ∷ bare 16 20 25 ∷ word 23 30 35 0 1 ∷ [])
    (97 ∷ []) 14 4 35
    (plain 1 0 5 0 ∷ plain 3 10 15 0 ∷ plain 7 10 15 0 ∷ valued 30 35 0 0 0 1 ∷ [])
    -- `SS ANC(x)` → 14 after 2 at 15
    ∷ whole false false
    (bare 1 0 5 ∷ word 21 10 15 0 1 ∷ [])
    (120 ∷ []) 14 2 15
    (plain 1 0 5 0 ∷ plain 3 10 15 0 ∷ [])
    -- `SS TD(!e!,p) DS TAG(!e!,t) SCA(a) DE DS TAG(!e!,u) SCA(b) SE` → 13 after 5 at 70
    ∷ whole false false
    (bare 1 0 5 ∷ pair 4 10 15 0 3 4 ∷ bare 6 20 25 ∷ pair 22 30 35 4 7 8 ∷ word 23 40 45 8 9 ∷ bare 7 50 55
    ∷ bare 6 60 65 ∷ pair 22 70 75 9 12 13 ∷ word 23 80 85 13 14 ∷ bare 2 90 95 ∷ [])
    (33 ∷ 101 ∷ 33 ∷ 112 ∷ 33 ∷ 101 ∷ 33 ∷ 116 ∷ 97 ∷ 33 ∷ 101 ∷ 33 ∷ 117 ∷ 98 ∷ []) 13 5 70
    (plain 1 0 5 0 ∷ plain 3 20 25 1 ∷ tag_on 2 3 4 7 8 (valued 30 45 0 0 8 9) ∷ plain 4 50 55 0 ∷ plain 3 60 65 1 ∷ [])
    -- `SS TD(!e!,p) DS TAG(!e!,t) SCA(a) DE DS TAG(!e!,u) SCA(b) SE` keep → 0 after 8
    ∷ whole true false
    (bare 1 0 5 ∷ pair 4 10 15 0 3 4 ∷ bare 6 20 25 ∷ pair 22 30 35 4 7 8 ∷ word 23 40 45 8 9 ∷ bare 7 50 55
    ∷ bare 6 60 65 ∷ pair 22 70 75 9 12 13 ∷ word 23 80 85 13 14 ∷ bare 2 90 95 ∷ [])
    (33 ∷ 101 ∷ 33 ∷ 112 ∷ 33 ∷ 101 ∷ 33 ∷ 116 ∷ 97 ∷ 33 ∷ 101 ∷ 33 ∷ 117 ∷ 98 ∷ []) 0 8 0
    (plain 1 0 5 0 ∷ plain 3 20 25 1 ∷ tag_on 2 3 4 7 8 (valued 30 45 0 0 8 9) ∷ plain 4 50 55 0 ∷ plain 3 60 65 1
    ∷ tag_on 2 3 4 12 13 (valued 70 85 0 0 13 14) ∷ plain 4 90 95 0 ∷ plain 2 90 95 0 ∷ [])
    -- `SS TD(!e!,p) DS DE TD(!e!,q) DS TAG(!e!,t) SCA(a) SE` keep → 0 after 8
    ∷ whole true false
    (bare 1 0 5 ∷ pair 4 10 15 0 3 4 ∷ bare 6 20 25 ∷ bare 7 30 35 ∷ pair 4 40 45 4 7 8 ∷ bare 6 50 55
    ∷ pair 22 60 65 8 11 12 ∷ word 23 70 75 12 13 ∷ bare 2 80 85 ∷ [])
    (33 ∷ 101 ∷ 33 ∷ 112 ∷ 33 ∷ 101 ∷ 33 ∷ 113 ∷ 33 ∷ 101 ∷ 33 ∷ 116 ∷ 97 ∷ []) 0 8 0
    (plain 1 0 5 0 ∷ plain 3 20 25 1 ∷ plain 6 30 35 0 ∷ plain 4 30 35 0 ∷ plain 3 50 55 1
    ∷ tag_on 2 7 8 11 12 (valued 60 75 0 0 12 13) ∷ plain 4 80 85 0 ∷ plain 2 80 85 0 ∷ [])
    -- `SS ANC(x) SCA(a) DE ALI(x) SE` → 0 after 8
    ∷ whole false false
    (bare 1 0 5 ∷ word 21 10 15 0 1 ∷ word 23 20 25 1 2 ∷ bare 7 30 35 ∷ word 20 40 45 2 3 ∷ bare 2 50 55 ∷ [])
    (120 ∷ 97 ∷ 120 ∷ []) 0 8 0
    (plain 1 0 5 0 ∷ plain 3 10 15 0 ∷ valued 10 25 1 0 1 2 ∷ plain 4 30 35 0 ∷ plain 3 40 45 0 ∷ plain 5 40 45 1
    ∷ plain 4 50 55 0 ∷ plain 2 50 55 0 ∷ [])
    -- `SS ANC(x) SCA(a) DE ALI(x) SE` forget → 7 after 5 at 40
    ∷ whole false true
    (bare 1 0 5 ∷ word 21 10 15 0 1 ∷ word 23 20 25 1 2 ∷ bare 7 30 35 ∷ word 20 40 45 2 3 ∷ bare 2 50 55 ∷ [])
    (120 ∷ 97 ∷ 120 ∷ []) 7 5 40
    (plain 1 0 5 0 ∷ plain 3 10 15 0 ∷ valued 10 25 1 0 1 2 ∷ plain 4 30 35 0 ∷ plain 3 40 45 0 ∷ [])
    -- `SS TD(!!,p) DS ANC(x) TAG(!!,t) SCA(a) DS FSS TAG(!!,u) SCA(b) FEN ALI(x) FSE SE` → 0 after 11
    ∷ whole false false
    (bare 1 0 5 ∷ pair 4 10 15 0 2 3 ∷ bare 6 20 25 ∷ word 21 30 35 3 4 ∷ pair 22 40 45 4 6 7 ∷ word 23 50 55 7 8
    ∷ bare 6 60 65 ∷ bare 12 70 75 ∷ pair 22 80 85 8 10 11 ∷ word 23 90 95 11 12 ∷ bare 17 100 105
    ∷ word 20 110 115 12 13 ∷ bare 13 120 125 ∷ bare 2 130 135 ∷ [])
    (33 ∷ 33 ∷ 112 ∷ 120 ∷ 33 ∷ 33 ∷ 116 ∷ 97 ∷ 33 ∷ 33 ∷ 117 ∷ 98 ∷ 120 ∷ []) 0 11 0
    (plain 1 0 5 0 ∷ plain 3 20 25 1 ∷ tag_on 2 2 3 6 7 (valued 30 55 1 0 7 8) ∷ plain 4 60 65 0 ∷ plain 3 60 65 1
    ∷ plain 7 70 75 0 ∷ tag_on 1 0 0 10 11 (valued 80 95 0 0 11 12) ∷ plain 5 110 115 1 ∷ plain 8 120 125 0
    ∷ plain 4 130 135 0 ∷ plain 2 130 135 0 ∷ [])
    -- `SS TD(!!,p) DS ANC(x) TAG(!!,t) SCA(a) DS FSS TAG(!!,u) SCA(b) FEN ALI(x) FSE SE` forget → 7 after 7 at 110
    ∷ whole false true
    (bare 1 0 5 ∷ pair 4 10 15 0 2 3 ∷ bare 6 20 25 ∷ word 21 30 35 3 4 ∷ pair 22 40 45 4 6 7 ∷ word 23 50 55 7 8
    ∷ bare 6 60 65 ∷ bare 12 70 75 ∷ pair 22 80 85 8 10 11 ∷ word 23 90 95 11 12 ∷ bare 17 100 105
    ∷ word 20 110 115 12 13 ∷ bare 13 120 125 ∷ bare 2 130 135 ∷ [])
    (33 ∷ 33 ∷ 112 ∷ 120 ∷ 33 ∷ 33 ∷ 116 ∷ 97 ∷ 33 ∷ 33 ∷ 117 ∷ 98 ∷ 120 ∷ []) 7 7 110
    (plain 1 0 5 0 ∷ plain 3 20 25 1 ∷ tag_on 2 2 3 6 7 (valued 30 55 1 0 7 8) ∷ plain 4 60 65 0 ∷ plain 3 60 65 1
    ∷ plain 7 70 75 0 ∷ tag_on 1 0 0 10 11 (valued 80 95 0 0 11 12) ∷ [])
    -- `SS TD(!!,p) DS ANC(x) TAG(!!,t) SCA(a) DS FSS TAG(!!,u) SCA(b) FEN ALI(x) FSE SE` keep → 0 after 11
    ∷ whole true false
    (bare 1 0 5 ∷ pair 4 10 15 0 2 3 ∷ bare 6 20 25 ∷ word 21 30 35 3 4 ∷ pair 22 40 45 4 6 7 ∷ word 23 50 55 7 8
    ∷ bare 6 60 65 ∷ bare 12 70 75 ∷ pair 22 80 85 8 10 11 ∷ word 23 90 95 11 12 ∷ bare 17 100 105
    ∷ word 20 110 115 12 13 ∷ bare 13 120 125 ∷ bare 2 130 135 ∷ [])
    (33 ∷ 33 ∷ 112 ∷ 120 ∷ 33 ∷ 33 ∷ 116 ∷ 97 ∷ 33 ∷ 33 ∷ 117 ∷ 98 ∷ 120 ∷ []) 0 11 0
    (plain 1 0 5 0 ∷ plain 3 20 25 1 ∷ tag_on 2 2 3 6 7 (valued 30 55 1 0 7 8) ∷ plain 4 60 65 0 ∷ plain 3 60 65 1
    ∷ plain 7 70 75 0 ∷ tag_on 2 2 3 10 11 (valued 80 95 0 0 11 12) ∷ plain 5 110 115 1 ∷ plain 8 120 125 0
    ∷ plain 4 130 135 0 ∷ plain 2 130 135 0 ∷ [])
    -- `SS TD(!!,p) DS ANC(x) TAG(!!,t) SCA(a) DS FSS TAG(!!,u) SCA(b) FEN ALI(x) FSE SE` keep forget → 7 after 7 at 110
    ∷ whole true true
    (bare 1 0 5 ∷ pair 4 10 15 0 2 3 ∷ bare 6 20 25 ∷ word 21 30 35 3 4 ∷ pair 22 40 45 4 6 7 ∷ word 23 50 55 7 8
    ∷ bare 6 60 65 ∷ bare 12 70 75 ∷ pair 22 80 85 8 10 11 ∷ word 23 90 95 11 12 ∷ bare 17 100 105
    ∷ word 20 110 115 12 13 ∷ bare 13 120 125 ∷ bare 2 130 135 ∷ [])
    (33 ∷ 33 ∷ 112 ∷ 120 ∷ 33 ∷ 33 ∷ 116 ∷ 97 ∷ 33 ∷ 33 ∷ 117 ∷ 98 ∷ 120 ∷ []) 7 7 110
    (plain 1 0 5 0 ∷ plain 3 20 25 1 ∷ tag_on 2 2 3 6 7 (valued 30 55 1 0 7 8) ∷ plain 4 60 65 0 ∷ plain 3 60 65 1
    ∷ plain 7 70 75 0 ∷ tag_on 2 2 3 10 11 (valued 80 95 0 0 11 12) ∷ [])
    ∷ []
