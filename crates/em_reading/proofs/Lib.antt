mod Beginning
mod Giving
