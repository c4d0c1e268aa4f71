use Rattle.dl_server.proofs.Answered.{asked_as}
use Rattle.dl_server.proofs.requests.Requests.reply_as.Goals as goal

pub returns-in-Page : goal.returns-in-Page
returns-in-Page g c =
    asked_as c.reply_page.result c.reply_page.new.response c.args.self.now.options.now _ c.args.asked c.args.is_json c.args.bytes.now c.in-Page.is c.reply_page.ensures

pub returns-in-Health : goal.returns-in-Health
returns-in-Health g c =
    asked_as c.reply_line.result c.reply_line.new.response c.args.self.now.options.now _ c.args.asked c.args.is_json c.args.bytes.now c.in-Health.is c.reply_line.ensures

pub returns-in-NoPlace : goal.returns-in-NoPlace
returns-in-NoPlace g c =
    asked_as c.reply_line-in-NoPlace.result c.reply_line-in-NoPlace.new.response c.args.self.now.options.now _ c.args.asked c.args.is_json c.args.bytes.now c.in-NoPlace.is c.reply_line-in-NoPlace.ensures

pub returns-in-NoMethod : goal.returns-in-NoMethod
returns-in-NoMethod g c =
    asked_as c.reply_no_method.result c.reply_no_method.new.response c.args.self.now.options.now _ c.args.asked c.args.is_json c.args.bytes.now c.in-NoMethod.is c.reply_no_method.ensures
