use Rattle.std.proofs.Common.{◌∷◌, ◌++◌, ◌∙◌, ap}
use Rattle.std.specs.Prelude.{codes, decimal}
use Rattle.script_text.specs.Commands.{command_word, command_fields, fields_words, command_words}
use Rattle.doc_book.specs.Listing.{reply_words}
use Rattle.listing_text.proofs.Lines.{made_words, made_reply}
use Rattle.listing_text.proofs.replies.reply_text.Goals as goal

pub returns : goal.returns
returns c =
    let cs = fields_words (command_fields c.args.line.now.command) in
    made_reply c.begin_with.new.text.items c.add_count.new.text.items c.add_reply.new.text.items c.push.new.self.items
    (decimal c.args.session) (decimal c.args.line.now.number)
    (command_words c.args.line.now.command ++ codes "=" ∷ reply_words c.args.reply.now)
    (c.in_ok-begin_with.ensures ∙ ap (λ items. items ++ decimal c.args.session) c.new-text.ensures.items)
    c.in_ok-add_count.ensures
    (made_words c.add_count.new.text.items c.add_word.new.text.items c.add_word-2.new.text.items c.add_reply.new.text.items
    (command_word c.args.line.now.command) cs (codes "=") (reply_words c.args.reply.now)
    (c.in_ok-add_word.ensures ∙ ap (λ word. c.add_count.new.text.items ++ 32 ∷ word) (c.deref.ensures.value ∙ c.in_ok-command_text.ensures))
    c.in_ok-add_word-2.ensures c.in_ok-add_reply.ensures)
    c.in_ok-push.ensures.items
