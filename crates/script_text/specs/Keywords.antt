-- The words of commands (they are this project's own).
use Rattle.std.specs.Prelude.{List, [], ◌∷◌, codes}
use Rattle.script_text.specs.Words.{Word}
use Rattle.script_text.specs.declared.keywords.Keyword.{Keyword}
use Rattle.script_text.specs.declared.keywords.Keyword.TheVariants as keyword

-- the word of each command
abbrev pub keyword_word : Keyword → Word
keyword_word keyword.Box = codes "box"
keyword_word keyword.Oval = codes "oval"
keyword_word keyword.Diamond = codes "diamond"
keyword_word keyword.Size = codes "size"
keyword_word keyword.Move = codes "move"
keyword_word keyword.Shift = codes "shift"
keyword_word keyword.Hold = codes "hold"
keyword_word keyword.Free = codes "free"
keyword_word keyword.Remove = codes "remove"
keyword_word keyword.Link = codes "link"
keyword_word keyword.Unlink = codes "unlink"
keyword_word keyword.Guide = codes "guide"
keyword_word keyword.Align = codes "align"
keyword_word keyword.Spread = codes "spread"
keyword_word keyword.Rank = codes "rank"
keyword_word keyword.Apart = codes "apart"
keyword_word keyword.Group = codes "group"
keyword_word keyword.Page = codes "page"
keyword_word keyword.Drop = codes "drop"
keyword_word keyword.Undo = codes "undo"
keyword_word keyword.Layout = codes "layout"
keyword_word keyword.Where = codes "where"

-- all of them
abbrev pub all_keywords : List Keyword
all_keywords =
    keyword.Box ∷ keyword.Oval ∷ keyword.Diamond ∷ keyword.Size ∷ keyword.Move ∷ keyword.Shift ∷ keyword.Hold ∷ keyword.Free ∷ keyword.Remove ∷ keyword.Link ∷ keyword.Unlink
    ∷ keyword.Guide ∷ keyword.Align ∷ keyword.Spread ∷ keyword.Rank ∷ keyword.Apart ∷ keyword.Group ∷ keyword.Page ∷ keyword.Drop ∷ keyword.Undo ∷ keyword.Layout ∷ keyword.Where ∷ []
